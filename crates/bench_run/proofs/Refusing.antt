-- A live run to which nobody posts is a run; and what its refusals leave.
use Rattle.std.proofs.Common.{ℕ, true, false, List, Option, subst}
use Rattle.job_file.specs.Jobs.{JobState}
use Rattle.bench_report.specs.Reports.{RunReport}
use Rattle.bench_settings.specs.declared.settings.Settings.{Settings}
use Rattle.bench_mail.specs.declared.mailbox.Mailbox.{Mailbox}
use Rattle.bench_mail.specs.declared.mailbox.Inbox.{Inbox}
use Rattle.bench_run.specs.declared.error.RunError.{RunError}
use Rattle.bench_run.specs.declared.error.RunError.TheVariants as fault
use Rattle.bench_run.specs.Runs.{Ran, IsCut, LeavesRunInSink}
use Rattle.bench_run.specs.Live.{RanAs, HaveMail, LeavesLate, LeavesLive}
use Rattle.bench_run.proofs.Lives.{lives_are_jobs}

module _ {S : Type 0} (taken : S → Option (List ℕ)) where
  pub ran_alone : (jobs : List JobState) (s : Settings) (inboxes : List Inbox) (before : S) (report : RunReport) (back : List Inbox) (after : S)
      → RanAs false taken 0 jobs s inboxes before report back after → Ran taken 0 jobs jobs s before report after
  ran_alone jobs s inboxes before report back after live =
      subst (λ (js : List JobState). Ran taken 0 jobs js s before report after) (lives_are_jobs jobs inboxes back report.channels live.lives live.live) live.ran

  pub left_alone : (failures : S → ℕ) (jobs : List JobState) (s : Settings) (inboxes : List Inbox) (before : S) (e : RunError S) (back : List Inbox)
      → LeavesLate false taken failures 0 jobs s inboxes before e back → LeavesRunInSink taken failures jobs s before e
  left_alone failures jobs s inboxes before (fault.Settings sink) back left = absurd left
  left_alone failures jobs s inboxes before (fault.ChannelTwice sink) back left = absurd left
  left_alone failures jobs s inboxes before (fault.Prologue sink) back left = absurd left
  left_alone failures jobs s inboxes before (fault.Memory sink) back left = left.memory
  left_alone failures jobs s inboxes before (fault.Sink sink report count) back left = record {
    lawful = left.lawful;
    failed = left.failed;
    cut = subst (λ (js : List JobState). IsCut taken 0 jobs js s before report count sink) (lives_are_jobs jobs inboxes back report.channels left.lives left.live) left.cut;
  }

  pub left_late : (failures : S → ℕ) (most : ℕ) (jobs : List JobState) (s : Settings)
      (boxes : List Mailbox) (inboxes : List Inbox) (before : S) (e : RunError S) (back : List Inbox)
      → HaveMail jobs boxes inboxes → LeavesLate true taken failures most jobs s inboxes before e back
      → LeavesLive taken failures most jobs s boxes inboxes before e back
  left_late failures most jobs s boxes inboxes before (fault.Settings sink) back mail left = absurd left
  left_late failures most jobs s boxes inboxes before (fault.ChannelTwice sink) back mail left = absurd left
  left_late failures most jobs s boxes inboxes before (fault.Prologue sink) back mail left = absurd left
  left_late failures most jobs s boxes inboxes before (fault.Memory sink) back mail left = record { mail = mail; late = left }
  left_late failures most jobs s boxes inboxes before (fault.Sink sink report count) back mail left = record { mail = mail; late = left }
