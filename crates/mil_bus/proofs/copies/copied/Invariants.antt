use Rattle.std.proofs.Common.{◌≡◌, take}
use Rattle.mil_bus.proofs.copies.copied.Given as goal

-- what was looked at is copied
abbrev pub invariant-loop-terminal : goal.invariant-loop-terminal
invariant-loop-terminal l = l.copies.items ≡ take l.terminal-index l.terminals
