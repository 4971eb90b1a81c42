use Rattle.std.proofs.Common.{◌≤◌, take}
use Rattle.std.specs.List.{All}
use Rattle.bench_export.specs.declared.changes.Change.{Change}
use Rattle.bench_export.proofs.merging.up_to.Given as goal

abbrev pub invariant-changes : goal.invariant-changes
invariant-changes l = All (λ (d : Change). d.tick ≤ l.bound) (take l.place l.waiting)
