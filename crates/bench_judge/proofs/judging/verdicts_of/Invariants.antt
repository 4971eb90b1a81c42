use Rattle.bench_judge.specs.Packets.{ArePacketTallies}
use Rattle.bench_judge.specs.Tallies.{AreTallies, IsTally}
use Rattle.bench_judge.specs.Verdicts.{Passed}
use Rattle.bench_judge.proofs.Whole.{IsJudging}
use Rattle.bench_judge.proofs.judging.verdicts_of.Given as goal

-- the rules so far have their verdicts
abbrev pub invariant-rules : goal.invariant-rules
invariant-rules l = (p : Passed) → AreTallies IsTally l.rules p.origins p.messages l.tallies.items → ArePacketTallies l.rules p.packets l.wholes.items → IsJudging l.rules p l.verdicts.items l.place
