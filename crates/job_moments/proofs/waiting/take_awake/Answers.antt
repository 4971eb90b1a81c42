use Rattle.std.proofs.Common.{refl}
use Rattle.job_moments.proofs.waiting.take_awake.Goals as goal

pub returns-then-is_quiet_group-clause-taken : goal.returns-then-is_quiet_group-clause-taken
returns-then-is_quiet_group-clause-taken g c = (c.is_quiet_group.ensures c.if-is_quiet_group.true, refl)
