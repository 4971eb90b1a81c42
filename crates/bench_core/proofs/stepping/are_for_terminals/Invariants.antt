use Rattle.std.proofs.Common.{drop}
use Rattle.bench_core.specs.World.{AreForTerminals}
use Rattle.bench_core.proofs.stepping.are_for_terminals.Given as goal

abbrev pub invariant-loop-step : goal.invariant-loop-step
invariant-loop-step l = record {
  rest : AreForTerminals l.channels l.steps → AreForTerminals l.channels (drop l.step-index l.steps);
  whole : AreForTerminals l.channels (drop l.step-index l.steps) → AreForTerminals l.channels l.steps;
}
