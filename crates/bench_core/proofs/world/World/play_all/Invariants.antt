use Rattle.std.proofs.Common.{◌≡◌, take}
use Rattle.bench_core.specs.Bench.{after_steps}
use Rattle.bench_core.specs.World.{with_bench, channel_count, AreSteps}
use Rattle.bench_core.proofs.world.World.play_all.Given as goal

abbrev pub invariant-loop-step : goal.invariant-loop-step
invariant-loop-step l = record {
  count : l.done ≡ l.step-index;
  lawful : AreSteps (channel_count l.fn.self) l.steps;
  played : l.self ≡ with_bench l.fn.self (after_steps (take l.step-index l.steps) l.fn.self.bench);
}
