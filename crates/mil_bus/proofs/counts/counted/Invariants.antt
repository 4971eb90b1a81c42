use Rattle.std.proofs.Common.{◌≡◌, ◌≤◌, take, length}
use Rattle.mil_bus.specs.Counts.{counts_of}
use Rattle.mil_bus.proofs.counts.counted.Given as goal

abbrev pub invariant-loop-step : goal.invariant-loop-step
invariant-loop-step l = record {
  seen : l.seen ≡ counts_of l.commands l.due (take l.from l.sent);
  within : l.from ≤ length l.sent;
  near : l._step ≤ l.from;
}
