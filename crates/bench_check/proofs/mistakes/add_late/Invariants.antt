use Rattle.std.proofs.Common.{◌≡◌, ◌++◌, take}
use Rattle.bench_check.specs.Mistakes.{late_of}
use Rattle.bench_check.proofs.mistakes.add_late.Given as goal

-- those that were looked at are added
abbrev pub invariant-loop-one : goal.invariant-loop-one
invariant-loop-one l = l.found.items ≡ l.fn.found.items ++ late_of (take l.one-index l.overruns)
