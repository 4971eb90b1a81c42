use Rattle.std.proofs.Common.{◌≡◌, ◌++◌, take}
use Rattle.bench_check.specs.Mistakes.{unmet_of_all}
use Rattle.bench_check.proofs.mistakes.add_unmet.Given as goal

-- those that were looked at are added
abbrev pub invariant-loop-planned : goal.invariant-loop-planned
invariant-loop-planned l = l.found.items ≡ l.fn.found.items ++ unmet_of_all l.made (take l.planned-index l.unmet)
