use Rattle.std.proofs.Common.{◌≢◌, ◌<◌, ℕ, get_or}
use Rattle.job_moments.specs.declared.groups.Group.{Group}
use Rattle.job_moments.specs.Quiet.{IsPart}
use Rattle.job_moments.proofs.groups.quiet_beside.Given as goal

-- they are quiet for each of the groups so far but the one of the place
abbrev pub invariant-loop-index : goal.invariant-loop-index
invariant-loop-index g l = (k : ℕ) (d : Group g.row.L.Denot) → k < l.index → k ≢ l.place → IsPart l.quiet (get_or l.groups k d).quiet
