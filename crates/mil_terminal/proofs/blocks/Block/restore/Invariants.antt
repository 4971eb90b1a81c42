use Rattle.std.proofs.Common.{◌≡◌, length}
use Rattle.mil_terminal.proofs.Unpacking.{IsLeft}
use Rattle.mil_terminal.proofs.blocks.Block.restore.Given as goal

abbrev pub invariant-loop-head : goal.invariant-loop-head
invariant-loop-head l = record {
  long : length l.self ≡ 160;
  left : IsLeft l.rest l.saved l.self;
}

abbrev pub decreases-loop-head : goal.decreases-loop-head
decreases-loop-head l = length l.rest
