use Rattle.std.proofs.Common.{◌≡◌, ◌++◌, drop}
use Rattle.mil_terminal.specs.Slots.{entries}
use Rattle.mil_terminal.proofs.blocks.Block.save.Given as goal

-- what is kept so far, and what is to be kept of the other slots
abbrev pub invariant-loop-slot : goal.invariant-loop-slot
invariant-loop-slot l = l.words.items ++ entries l.slot (drop l.slot l.self) ≡ entries 0 l.self
