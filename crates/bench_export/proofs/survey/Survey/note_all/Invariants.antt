use Rattle.std.proofs.Common.{◌≡◌, ◌++◌, List, take, length}
use Rattle.bench_export.specs.Merging.{IsSurvey}
use Rattle.bench_export.specs.declared.changes.Change.{Change}
use Rattle.bench_export.proofs.survey.Survey.note_all.Given as goal

abbrev pub invariant-changes : goal.invariant-changes
invariant-changes l = record {
  many : length l.self.marks.items ≡ 65536;
  noted : (cs : List Change) → IsSurvey l.fn.self.marks.items l.fn.self.least l.fn.self.newest l.fn.self.lag cs
      → IsSurvey l.self.marks.items l.self.least l.self.newest l.self.lag (cs ++ take l.change-index l.changes);
}
