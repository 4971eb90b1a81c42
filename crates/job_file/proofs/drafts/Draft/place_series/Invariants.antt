use Rattle.std.proofs.Common.{◌≡◌, ◌++◌, map}
use Rattle.std.specs.List.{range_with_len}
use Rattle.job_file.specs.Spans.{placed_at}
use Rattle.job_file.specs.Drafts.{shown}
use Rattle.job_file.proofs.drafts.Draft.place_series.Given as goal

abbrev pub invariant-loop-before : goal.invariant-loop-before
invariant-loop-before l = shown l.self ≡ record (shown l.initial.self) {
  actions = l.initial.self.actions ++ map (placed_at l.series) (range_with_len 0 l.before);
}
