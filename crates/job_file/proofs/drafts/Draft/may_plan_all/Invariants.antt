use Rattle.std.proofs.Common.{◌≡◌, map}
use Rattle.std.specs.Prelude.{None}
use Rattle.std.specs.List.{range_with_len}
use Rattle.job_file.specs.Faults.{plan_fault, first_fault}
use Rattle.job_file.specs.Spans.{span_number}
use Rattle.job_file.proofs.drafts.Draft.may_plan_all.Given as goal

abbrev pub invariant-loop-before : goal.invariant-loop-before
invariant-loop-before l = first_fault (map (λ k. plan_fault l.self.plan l.fault (span_number l.span k)) (range_with_len 0 l.before)) ≡ None
