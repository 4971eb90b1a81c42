use Rattle.std.proofs.Common.{take}
use Rattle.frame_tree.specs.Tree.{condition_in}
use Rattle.replay.specs.Finding.{IsMetIn, FindsBack}
use Rattle.replay.proofs.finding.latest_met.Given as goal

abbrev pub invariant-loop-track : goal.invariant-loop-track
invariant-loop-track g l = FindsBack l.place (IsMetIn l.channels (condition_in l.condition) (take l.track-index l.tracks)) l.latest
