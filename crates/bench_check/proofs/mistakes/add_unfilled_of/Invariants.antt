use Rattle.std.proofs.Common.{◌≡◌, ◌++◌}
use Rattle.bench_check.specs.Mistakes.{unfilled_up_to}
use Rattle.bench_check.proofs.mistakes.add_unfilled_of.Given as goal

-- those of so many subaddresses are added
abbrev pub invariant-loop-count : goal.invariant-loop-count
invariant-loop-count l = l.found.items ≡ l.fn.found.items ++ unfilled_up_to l.oddities l.address l.count
