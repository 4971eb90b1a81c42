use Rattle.std.proofs.Common.{◌≡◌, ◌≤◌, ◌++◌, take, length, drop}
use Rattle.mil_line.specs.Faults.{altered_from}
use Rattle.mil_line.proofs.on_line.altered.Given as goal

abbrev pub invariant-loop-i : goal.invariant-loop-i
invariant-loop-i l = record {
  items : take l.room (l.words.items ++ altered_from l.faults l.run l.i (drop l.i l.given)) ≡ take l.room (altered_from l.faults l.run 0 l.given);
  within : length l.words.items ≤ l.room;
}
