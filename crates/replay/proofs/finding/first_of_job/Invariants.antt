use Rattle.std.proofs.Common.{◌≡◌, ◌<◌, ◌≤◌, ℕ}
use Rattle.frame_tree.specs.Tree.{condition_in}
use Rattle.replay.specs.Finding.{count_to, IsMetBy}
use Rattle.replay.proofs.finding.first_of_job.Given as goal

abbrev pub invariant-loop-before : goal.invariant-loop-before
invariant-loop-before g l = record {
  from : l.place ≤ l.before;
  heard : l.heard ≡ count_to l.channels l.before l.track.job.channel;
  none : (m : ℕ) → l.place < m → m ≤ l.before → ¬ IsMetBy l.channels (condition_in l.condition) l.track m;
}
