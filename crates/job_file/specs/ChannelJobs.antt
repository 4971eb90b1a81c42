-- All that is to be known of a channel's bus (own choice).
use Rattle.std.specs.Prelude.{ℕ, List}
use Rattle.mil_line.specs.Plans.{Planned}
use Rattle.frame_tree.specs.Tree.{Tree}
use Rattle.bc_machine.specs.declared.placed.Placed.{Placed}

pub record ChannelJob : Type 0 where
  pub channel : ℕ
  -- the start tick
  pub start : ℕ
  -- the addresses of the terminals
  pub addresses : List ℕ
  -- the hosts' actions, in the order of the text
  pub actions : List Placed
  -- the planned faults, in the order of the text
  pub plan : List Planned
  -- what the script spells
  pub tree : Tree
