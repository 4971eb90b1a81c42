use Rattle.std.proofs.Common.{◌≡◌, take}
use Rattle.mil_bus.proofs.saved_terminals.all_saved.Given as goal

-- what was looked at is saved
abbrev pub invariant-loop-terminal : goal.invariant-loop-terminal
invariant-loop-terminal l = l.saved.items ≡ take l.terminal-index l.terminals
