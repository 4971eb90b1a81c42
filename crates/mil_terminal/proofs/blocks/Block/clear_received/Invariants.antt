use Rattle.std.proofs.Common.{◌≡◌, ℕ, ◌<◌, ◌≤◌, [], length}
use Rattle.std.specs.Prelude.{slice_index_or}
use Rattle.mil_terminal.proofs.blocks.Block.clear_received.Given as goal

-- the lists so far are empty, and the others as they were
abbrev pub invariant-loop-slot : goal.invariant-loop-slot
invariant-loop-slot l = record {
  cleared : (k : ℕ) → k < l.slot → slice_index_or l.self k [] ≡ [];
  kept : (k : ℕ) → l.slot ≤ k → slice_index_or l.self k [] ≡ slice_index_or l.fn.self k [];
  long : length l.self ≡ length l.fn.self;
  few : l.slot ≤ 64;
}
