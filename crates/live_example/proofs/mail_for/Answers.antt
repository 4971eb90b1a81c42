use Rattle.std.proofs.Common.{arith}
use Rattle.live_example.proofs.mail_for.Goals as goal

pub returns-in-Ok : goal.returns-in-Ok
returns-in-Ok c = (
  record {
    poster = c.in-Ok.ensures.ends.0;
    holds = c.in-Ok.ensures.hosts 0 (omega arith);
    limit = c.in-Ok.ensures.limits 0 (omega arith);
    fresh = c.in-Ok.ensures.posted;
  },
  c.in-Ok.ensures.ends.1,
)
