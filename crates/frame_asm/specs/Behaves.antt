-- What it is for a code to do what a tree means.
use Rattle.std.specs.Prelude.{◌≡◌, ℕ}
use Rattle.mil_message.specs.World.{World, Point}
use Rattle.frame_tree.specs.Tree.{Tree}
use Rattle.frame_tree.specs.Meaning.{meaning}
use Rattle.frame_code.specs.Table.{Code, Registers, goes_on, halted, start, step, run}

-- from its first operation the code comes to where the tree leads, and halts there
pub record Behaves {State Outcome : Type 0} (w : World State Outcome) (t : Tree) (code : Code)
    (p : Point State Outcome) : Type 0 where
  pub steps : ℕ
  pub last : Registers
  pub comes : run w steps code (start code) p ≡ goes_on (record { at = last; point = meaning w t p })
  pub halts : step w code last (meaning w t p) ≡ halted
