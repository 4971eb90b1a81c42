use Rattle.std.proofs.Common.{arith}
use Rattle.bench_core.proofs.Offers.{there}
use Rattle.bench_core.proofs.Worlds.{played_more}
use Rattle.bench_core.proofs.world.World.play_all.Goals as goal

pub loop-step-preserved : goal.loop-step-preserved
loop-step-preserved c = record {
  count = omega (arith, c.loop-step.invariant.count);
  lawful = c.loop-step.invariant.lawful;
  played =
      played_more c.args.self.now c.loop-step.self c.step.new.self c.args.steps.now c.loop-step.step-index _
      (there c.args.steps.now c.loop-step.step-index c.step-item.result c.step-item.result c.loop-step-test.true c.step-item.is) c.loop-step.invariant.played c.in-Ok.ensures.ok;
}
