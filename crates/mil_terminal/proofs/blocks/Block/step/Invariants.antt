use Rattle.std.proofs.Common.{◌≡◌, ◌++◌, length, drop}
use Rattle.mil_terminal.specs.Placing.{carried_from}
use Rattle.mil_terminal.proofs.blocks.Block.step.Given as goal

-- the words so far, and those that are to come
abbrev pub invariant-loop-place : goal.invariant-loop-place
invariant-loop-place l = record {
  long : length l.words.items ≡ l.place;
  rest : l.words.items ++ carried_from l.fn.self l.sub l.count l.place (drop l.place l.before) ≡ carried_from l.fn.self l.sub l.count 0 l.before;
}
