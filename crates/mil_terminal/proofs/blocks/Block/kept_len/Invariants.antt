use Rattle.std.proofs.Common.{◌≡◌, ◌+◌, ◌*◌, ◌≤◌, length, drop}
use Rattle.mil_terminal.specs.Slots.{entries}
use Rattle.mil_terminal.proofs.blocks.Block.kept_len.Given as goal

-- what is counted so far, and what the other slots take
abbrev pub invariant-loop-count : goal.invariant-loop-count
invariant-loop-count l = record {
  few : l.len ≤ 33 * l.count-index;
  sum : l.len + length (entries l.count-index (drop l.count-index l.self)) ≡ length (entries 0 l.self);
}
