use Rattle.std.proofs.Common.{◌≡◌, ◌<◌, ◌≤◌, ℕ, get_or}
use Rattle.job_moments.specs.declared.groups.Group.{Group}
use Rattle.job_moments.specs.declared.waiting.Pending.{Pending}
use Rattle.job_moments.specs.Awaiting.{KnowsGroup}
use Rattle.job_moments.specs.Groups.{lines_inside}
use Rattle.job_moments.proofs.Taking.{IsPassed}
use Rattle.job_moments.proofs.waiting.take_from.Given as goal

-- none of the lines of the groups so far is due
abbrev pub invariant-loop-group : goal.invariant-loop-group
invariant-loop-group g l = record {
  done : (k : ℕ) (d : Group (Pending g.row.T.Denot)) → k < l.group-index → IsPassed lines_inside l.counts.made l.next (get_or l.fn.groups k d) (get_or l.groups k d);
  known : (k : ℕ) (d : Group (Pending g.row.T.Denot)) → k < l.group-index → KnowsGroup l.counts (get_or l.groups k d);
  rest : (k : ℕ) (d : Group (Pending g.row.T.Denot)) → l.group-index ≤ k → get_or l.groups k d ≡ get_or l.fn.groups k d;
}
