use Rattle.std.proofs.Common.{◌≡◌, ◌-◌, vec_capacity}
use Rattle.mil_trunk.specs.Ends.{tags_of, bounds_of}
use Rattle.bench_settings.specs.Placing.{IsOrdered}
use Rattle.bench_mail.specs.Mail.{IsInboxOf}
use Rattle.bench_run.specs.Threads.{IsThreadStage}
use Rattle.bench_run.proofs.by_number.by_number.Given as goal

abbrev pub invariant-messages : goal.invariant-messages
invariant-messages g l = record {
  stage : IsThreadStage l.context.trunk.now (tags_of l.fn.ticket) (bounds_of l.fn.ticket) l.way.index l.fn.posts.left l.fn.posts.inbox l.way.job.now l.machine l.ticket l.refused.items l.posts;
  inbox : IsInboxOf l.way.mailbox.now l.posts.inbox;
  ordered : IsOrdered l.posts.ordered.actions;
  room : vec_capacity l.refused ≡ vec_capacity l.fn.refused;
}

abbrev pub decreases-messages : goal.decreases-messages
decreases-messages g l = 1000000 - l.machine.point.number
