use Rattle.std.proofs.Common.{◌≡◌, ◌+◌}
use Rattle.frame_tree.specs.Tree.{condition_in}
use Rattle.replay.specs.Finding.{count_to, IsMetBy, FindsBack}
use Rattle.replay.proofs.finding.latest_of_job.Given as goal

abbrev pub invariant-loop-before : goal.invariant-loop-before
invariant-loop-before g l = record {
  heard : l.heard ≡ count_to l.channels l.before l.track.job.channel;
  latest : FindsBack (l.before + 1) (IsMetBy l.channels (condition_in l.condition) l.track) l.latest;
}
