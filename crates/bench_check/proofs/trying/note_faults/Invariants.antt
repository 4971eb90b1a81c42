use Rattle.std.proofs.Common.{◌≡◌, ◌++◌, take}
use Rattle.std.specs.Prelude.{not}
use Rattle.std.specs.List.{filter}
use Rattle.bench_check.specs.Meeting.{meets_something}
use Rattle.bench_check.specs.Unmet.{numbered}
use Rattle.bench_check.proofs.trying.note_faults.Given as goal

-- those that were looked at and meet nothing are kept
abbrev pub invariant-loop-place : goal.invariant-loop-place
invariant-loop-place l = l.unmet.items ≡ l.fn.unmet.items ++ numbered l.number (filter (λ f. not (meets_something l.coming.bus l.coming.talk l.faults f)) (take l.place l.faults))
