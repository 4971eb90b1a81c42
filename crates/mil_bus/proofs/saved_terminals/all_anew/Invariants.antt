use Rattle.std.proofs.Common.{◌≡◌, take}
use Rattle.mil_bus.proofs.saved_terminals.all_anew.Given as goal

-- what was looked at is there anew
abbrev pub invariant-loop-one : goal.invariant-loop-one
invariant-loop-one l = l.terminals.items ≡ take l.one-index l.saved
