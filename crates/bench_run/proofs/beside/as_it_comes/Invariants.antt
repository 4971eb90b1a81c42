use Rattle.std.proofs.Common.{◌≡◌, ◌+◌, ◌*◌, true, cond, vec_capacity}
use Rattle.bc_machine.specs.Running.{HasEnded}
use Rattle.mil_trunk.specs.Ends.{tags_of, bounds_of}
use Rattle.bench_settings.specs.Placing.{IsOrdered}
use Rattle.bench_mail.specs.Mail.{IsInboxOf}
use Rattle.job_file.specs.Resolving.{turns_left}
use Rattle.bench_run.specs.Beside.{IsStageBeside}
use Rattle.bench_run.proofs.beside.as_it_comes.Given as goal

abbrev pub invariant-turns : goal.invariant-turns
invariant-turns g l = record {
  stage : IsStageBeside l.context.trunk.now (tags_of l.fn.ticket) (bounds_of l.fn.ticket) l.way.index l.fn.posts.left l.fn.posts.inbox l.way.job.now l.run l.ticket l.refused.items l.posts;
  inbox : IsInboxOf l.way.mailbox.now l.posts.inbox;
  ordered : IsOrdered l.posts.ordered.actions;
  ended : l.ended ≡ true → HasEnded l.run.machine;
  done : l.done ≡ true → l.ended ≡ true;
  room : vec_capacity l.refused ≡ vec_capacity l.fn.refused;
}

abbrev pub decreases-turns : goal.decreases-turns
decreases-turns g l = turns_left l.run.machine * 2 + cond l.ended 0 1 + cond l.done 0 1
