use Rattle.std.proofs.Common.{◌≡◌, ◌+◌, ◌≤◌, drop}
use Rattle.bench_core.specs.World.{posts_for}
use Rattle.bench_core.proofs.stepping.posts_for.Given as goal

abbrev pub invariant-loop-step : goal.invariant-loop-step
invariant-loop-step l = record {
  low : l.count ≤ l.step-index;
  count : posts_for l.index l.steps ≡ l.count + posts_for l.index (drop l.step-index l.steps);
}
