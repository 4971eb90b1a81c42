use Rattle.std.proofs.Common.{◌≡◌, List, drop}
use Rattle.bench_export.specs.Merging.{AreShown, last_tick}
use Rattle.bench_export.specs.declared.changes.Change.{Change}
use Rattle.bench_export.proofs.Dumping.{IsWriting}
use Rattle.bench_export.proofs.merging.write_changes.Given as goal

abbrev pub invariant-changes : goal.invariant-changes
invariant-changes g l = record {
  writing : (cs : List Change) → AreShown l.fn.lines.shown.items cs → IsWriting (g.W.Write.contents l.fn.out) (g.W.Write.contents l.out) l.told l.last l.change-index l.lines.shown.items cs l.changes;
  last : last_tick l.last (drop l.change-index l.changes) ≡ last_tick l.told l.changes;
}
