use Rattle.std.proofs.Common.{take}
use Rattle.bench_check.specs.Filling.{AreFirsts}
use Rattle.bench_check.proofs.filling.Filled.of.Given as goal

-- what is kept tells of the actions so far
abbrev pub invariant-loop-place : goal.invariant-loop-place
invariant-loop-place l = AreFirsts l.firsts (take l.place l.placed)
