use Rattle.std.proofs.Common.{◌≡◌, ◌<◌, ◌≤◌, ℕ, get_or}
use Rattle.job_moments.specs.declared.groups.Group.{Group}
use Rattle.job_moments.specs.declared.planning.Rule.{Rule}
use Rattle.job_moments.specs.Groups.{lines_inside}
use Rattle.job_moments.specs.Rules.{KnowsGroup}
use Rattle.job_moments.proofs.planning.learn_groups.Given as goal

-- the groups so far have learned it
abbrev pub invariant-loop-group : goal.invariant-loop-group
invariant-loop-group l = record {
  done : (k : ℕ) (d : Group Rule) → k < l.group-index → lines_inside (get_or l.groups k d) ≡ lines_inside (get_or l.fn.groups k d);
  known : (k : ℕ) (d : Group Rule) → k < l.group-index → KnowsGroup l.counts (get_or l.groups k d);
  rest : (k : ℕ) (d : Group Rule) → l.group-index ≤ k → get_or l.groups k d ≡ get_or l.fn.groups k d;
}
