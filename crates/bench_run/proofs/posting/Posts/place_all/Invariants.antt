use Rattle.std.proofs.Common.{◌≡◌, ◌<◌, ◌≤◌, ℕ}
use Rattle.bc_machine.specs.UnderWay.{IsUnderWay}
use Rattle.job_file.specs.Jobs.{JobState}
use Rattle.bench_settings.specs.Placing.{IsOrdered}
use Rattle.bench_mail.specs.declared.mailbox.Inbox.{Inbox}
use Rattle.bench_mail.specs.Mail.{IsInboxOf, times_empty}
use Rattle.bench_run.specs.Posted.{IsPosted, TakesPosts}
use Rattle.bench_run.proofs.posting.Posts.place_all.Given as goal

abbrev pub invariant-taking : goal.invariant-taking
invariant-taking g l = record {
  inbox : IsInboxOf l.mailbox l.self.inbox;
  ordered : IsOrdered l.self.ordered.actions;
  point : l.machine.point ≡ l.fn.machine.point;
  low : l.fn.machine.point.number < 1000000;
  left : l.self.left ≤ l.fn.self.left;
  times : times_empty l.self.inbox ≡ times_empty l.fn.self.inbox;
  posted : (most : ℕ) (before : Inbox) (job : JobState) → IsPosted most before job l.fn.machine l.fn.self → IsPosted most before job l.machine l.self;
  takes : TakesPosts l.fn.machine l.machine l.fn.self l.self;
  under_way : IsUnderWay l.fn.machine → IsUnderWay l.machine;
}

abbrev pub decreases-taking : goal.decreases-taking
decreases-taking g l = l.self.left
