use Rattle.std.proofs.Common.{◌≡◌, ◌++◌, take}
use Rattle.bench_check.specs.Mistakes.{uncarried_of}
use Rattle.bench_check.proofs.mistakes.add_uncarried.Given as goal

-- those that were looked at are added
abbrev pub invariant-loop-one : goal.invariant-loop-one
invariant-loop-one l = l.found.items ≡ l.fn.found.items ++ uncarried_of (take l.one-index l.uncarried)
