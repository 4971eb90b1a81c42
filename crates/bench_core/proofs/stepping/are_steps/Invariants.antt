use Rattle.std.proofs.Common.{drop}
use Rattle.bench_core.specs.World.{AreSteps}
use Rattle.bench_core.proofs.stepping.are_steps.Given as goal

abbrev pub invariant-loop-step : goal.invariant-loop-step
invariant-loop-step l = record {
  rest : AreSteps l.channels l.steps → AreSteps l.channels (drop l.step-index l.steps);
  whole : AreSteps l.channels (drop l.step-index l.steps) → AreSteps l.channels l.steps;
}
