use Rattle.std.proofs.Common.{◌≡◌, take, length}
use Rattle.mil_bus.proofs.saved_terminals.restore_each.Given as goal

-- the first of them are as they were
abbrev pub invariant-loop-i : goal.invariant-loop-i
invariant-loop-i l = record {
  long : length l.terminals ≡ length l.saved;
  front : take l.i l.terminals ≡ take l.i l.saved;
}
