use Rattle.std.proofs.Common.{◌≡◌, length}
use Rattle.bench_check.specs.Scripts.{script_in}
use Rattle.bench_check.proofs.scripts.script_of.Given as goal

abbrev pub invariant-loop-rest : goal.invariant-loop-rest
invariant-loop-rest l = script_in l.fn.text ≡ script_in l.rest

abbrev pub decreases-loop-rest : goal.decreases-loop-rest
decreases-loop-rest l = length l.rest
