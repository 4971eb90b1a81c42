use Rattle.std.proofs.Common.{◌≡◌, ◌++◌, map}
use Rattle.std.specs.List.{range_with_len}
use Rattle.job_file.specs.Spans.{span_number}
use Rattle.job_file.specs.Drafts.{shown}
use Rattle.job_file.proofs.drafts.Draft.plan_each.Given as goal

abbrev pub invariant-loop-before : goal.invariant-loop-before
invariant-loop-before l = shown l.self ≡ record (shown l.initial.self) {
  plan = l.initial.self.plan ++ map (λ k. (span_number l.span k, l.fault)) (range_with_len 0 l.before);
}
