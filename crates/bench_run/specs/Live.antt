-- Runs while which hosts post actions (own choice). Before each message a channel's thread takes posts from its
-- mailbox, and places each at that message, behind what is placed there. A live run is a run of the jobs with these
-- actions besides their own; what the lines of a job say by time and by command is done as it comes to be due, in front
-- of the posts.
use Rattle.std.specs.Prelude.{◌≡◌, ℕ, ◌+◌, ◌-◌, ◌^◌, ◌<◌, ◌≤◌, List, [], ◌++◌, length, map, take, slice_get}
use Rattle.std.specs.Prelude.{Bool, true, false, Option, Some}
use Rattle.std.specs.Prelude.{Result, IfOk, IfErr}
use Rattle.std.specs.Global.{Vec}
use Rattle.std.specs.List.{AllByRecursion}
use Rattle.bc_machine.specs.declared.placed.HostAction.{HostAction}
use Rattle.bc_machine.specs.declared.placed.Placed.{Placed}
use Rattle.job_file.specs.Jobs.{JobState}
use Rattle.job_file.specs.Beside.{with_posts, IsLive}
use Rattle.job_file.specs.Rooms.{most_items}
use Rattle.bench_report.specs.Reports.{ChannelPart, RunReport, NeverFalls}
use Rattle.bench_settings.specs.declared.settings.Settings.{Settings}
use Rattle.bench_settings.specs.Lawful.{AreSettingsInRange, AreLawful}
use Rattle.bench_mail.specs.declared.mailbox.Post.{Post}
use Rattle.bench_mail.specs.declared.mailbox.Mailbox.{Mailbox}
use Rattle.bench_mail.specs.declared.mailbox.Inbox.{Inbox}
use Rattle.bench_run.specs.declared.error.LiveError.{LiveError}
use Rattle.bench_run.specs.declared.error.RunError.{RunError}
use Rattle.bench_run.specs.declared.error.RunError.TheVariants as fault
use Rattle.bench_mail.specs.Mail.{received_by, times_empty, IsInboxOf, IsMadeFor}
use Rattle.bench_run.specs.Runs.{ArePairs, Ran, RefusesNoneWithRoom, IsCut, LeavesMemory, LeavesRunInSink, records_of}

-- the job that a channel's messages are those of, under these posts: in a live run what the lines of the given job say
-- by time and by command comes to be due beside them; else all of it stands at its numbers
abbrev pub IsRunAs : Bool → ℕ → JobState → List Placed → JobState → Type 0
IsRunAs true most job posts live = IsLive most job posts live
IsRunAs false most job posts live = live ≡ with_posts job posts

-- what is asked for
abbrev pub asked_by : Post → HostAction
asked_by p = p.action

abbrev pub asked_at : Placed → HostAction
asked_at p = p.action

-- What became of the posts of a channel that made so many messages, where at most `most` are taken: those that were
-- received in the run were placed, in that order and each once, from the first on, all but the last at most, at numbers
-- that never fall. One placed above `made` came too late: no message meets it. Where all that were received were
-- placed, and more might have been taken, the mailbox was found empty once more for each message: what stood in it was
-- taken first. The count of that stops at 2^64 - 1.
pub record ArePlaced (most made : ℕ) (before after : Inbox) (posts : List Placed) : Type 0 where
  pub got : List Post
  pub received : received_by after ≡ received_by before ++ got
  pub few : length got ≤ most
  pub first : map asked_at posts ≡ take (length posts) (map asked_by got)
  pub nearly_all : length got ≤ length posts + 1
  pub order : NeverFalls 1 posts
  pub latest : AllByRecursion (λ p. p.number ≤ made + 1) posts
  pub emptied : length posts ≡ length got → length got < most → times_empty after < 2 ^ 64 - 1
      → times_empty before + made ≤ times_empty after

-- a channel of a live run: its job, its inbox before and after, its part of the report, the posts that were placed, and
-- the job that its messages are those of
pub record LiveChannel : Type 0 where
  pub job : JobState
  pub before : Inbox
  pub after : Inbox
  pub part : ChannelPart
  pub posts : List Placed
  pub live : JobState

abbrev pub live_job : LiveChannel → JobState
live_job c = c.live

-- The jobs of a run, each as its channel ran it, with the posts that were placed. Each makes fewer messages than a
-- queue has room for that has room for all.
pub record AreRunAs (is_live : Bool) (most : ℕ) (jobs : List JobState) (before after : List Inbox)
    (parts : List ChannelPart) (lives : List JobState) : Type 0 where
  pub rows : List LiveChannel
  pub jobs_are : map (λ (c : LiveChannel). c.job) rows ≡ jobs
  pub before_are : map (λ (c : LiveChannel). c.before) rows ≡ before
  pub after_are : map (λ (c : LiveChannel). c.after) rows ≡ after
  pub parts_are : map (λ (c : LiveChannel). c.part) rows ≡ parts
  pub lives_are : map live_job rows ≡ lives
  pub placed : AllByRecursion (λ (c : LiveChannel). ArePlaced most c.part.made c.before c.after c.posts) rows
  pub means : AllByRecursion (λ (c : LiveChannel). IsRunAs is_live most c.job c.posts c.live) rows
  pub few : AllByRecursion (λ (c : LiveChannel). length (records_of c.live) < most_items most c.job) rows

-- the jobs of a live run
abbrev pub AreLive : ℕ → List JobState → List Inbox → List Inbox → List ChannelPart → List JobState → Type 0
AreLive most jobs before after parts lives = AreRunAs true most jobs before after parts lives

-- each inbox is that of the mailbox at its place
abbrev pub AreInboxesOf : List Mailbox → List Inbox → Type 0
AreInboxesOf boxes inboxes = (k : ℕ) (box : Mailbox) (inbox : Inbox) → slice_get boxes k ≡ Some box
    → slice_get inboxes k ≡ Some inbox → IsInboxOf box inbox

-- there are a mailbox and an inbox for each job, in the order of the jobs, made for its channel and terminals
pub record HaveMail (jobs : List JobState) (boxes : List Mailbox) (inboxes : List Inbox) : Type 0 where
  pub boxes_fit : ArePairs IsMadeFor boxes jobs
  pub inboxes_fit : length inboxes ≡ length jobs

-- the sink took the file of a finished run of the jobs with the posts that were placed
pub record RanAs {S : Type 0} (is_live : Bool) (taken : S → Option (List ℕ)) (most : ℕ) (jobs : List JobState)
    (s : Settings) (inboxes : List Inbox) (before : S) (report : RunReport) (back : List Inbox) (after : S)
    : Type 0 where
  pub lives : List JobState
  pub live : AreRunAs is_live most jobs inboxes back report.channels lives
  pub ran : Ran taken most jobs lives s before report after

abbrev pub RanLive : {S : Type 0} → (S → Option (List ℕ)) → ℕ → List JobState → Settings → List Inbox → S → RunReport
    → List Inbox → S → Type 0
RanLive taken most jobs s inboxes before report back after =
    RanAs true taken most jobs s inboxes before report back after

-- U3: as of a run, and no inbox comes back
pub record LeavesNoInbox {S : Type 0} (taken : S → Option (List ℕ)) (jobs : List JobState) (s : Settings)
    (before sink : S) (back : List Inbox) : Type 0 where
  pub none : back ≡ []
  pub memory : LeavesMemory taken jobs s before sink

-- U4: the sink failed in a run of the jobs with the posts that were placed; what was taken from the inboxes stays taken
pub record LeavesSinkAs {S : Type 0} (is_live : Bool) (taken : S → Option (List ℕ)) (failures : S → ℕ) (most : ℕ)
    (jobs : List JobState) (s : Settings) (inboxes : List Inbox) (before sink : S) (report : RunReport) (count : ℕ)
    (back : List Inbox) : Type 0 where
  pub lawful : AreLawful jobs s
  pub failed : failures before < failures sink
  pub lives : List JobState
  pub live : AreRunAs is_live most jobs inboxes back report.channels lives
  pub cut : IsCut taken most jobs lives s before report count sink

-- What a refusal of what may be run says and leaves: for want of memory no inbox comes back; what was taken from them
-- before the sink failed stays taken.
abbrev pub LeavesLate : {S : Type 0} → Bool → (S → Option (List ℕ)) → (S → ℕ) → ℕ → List JobState → Settings
    → List Inbox → S → RunError S → List Inbox → Type 0
LeavesLate is_live taken failures most jobs s inboxes before (fault.Memory sink) back =
    LeavesNoInbox taken jobs s before sink back
LeavesLate is_live taken failures most jobs s inboxes before (fault.Sink sink report count) back =
    LeavesSinkAs is_live taken failures most jobs s inboxes before sink report count back
LeavesLate is_live taken failures most jobs s inboxes before other back = ⊥

-- What the threads of a run of lawful jobs answer, in one statement: a finished run whose inboxes are those of the
-- mailboxes, and which refused none where the queue had room for all; or a late refusal and the inboxes that come back.
pub record RanOrLeftAs {S : Type 0} (is_live : Bool) (taken : S → Option (List ℕ)) (failures : S → ℕ) (most : ℕ)
    (jobs : List JobState) (s : Settings) (boxes : List Mailbox) (inboxes : List Inbox) (before : S)
    (answer : Result (RunReport × Vec Inbox × S) (LiveError S)) : Type 0 where
  pub ran : IfOk answer (λ r. RanAs is_live taken most jobs s inboxes before r.0 r.1.items r.2)
  pub ends : IfOk answer (λ r. AreInboxesOf boxes r.1.items)
  pub room : IfOk answer (λ r. RefusesNoneWithRoom most jobs s r.0)
  pub refused : IfErr answer (λ e. LeavesLate is_live taken failures most jobs s inboxes before e.fault e.inboxes.items)
  pub back : IfErr answer (λ e. AreInboxesOf boxes e.inboxes.items)

-- U2: as of a run, or there are not a mailbox and an inbox for each job; the sink and the inboxes are as they were
pub record LeavesUnfit {S : Type 0} (jobs : List JobState) (s : Settings) (boxes : List Mailbox) (inboxes : List Inbox)
    (before sink : S) (back : List Inbox) : Type 0 where
  pub untouched : sink ≡ before
  pub same : back ≡ inboxes
  pub out : ¬ (AreSettingsInRange jobs s × HaveMail jobs boxes inboxes)

-- U1 and U5: as of a run, where there are a mailbox and an inbox for each job; the inboxes are as they were
pub record LeavesEarly {S : Type 0} (taken : S → Option (List ℕ)) (failures : S → ℕ) (jobs : List JobState)
    (s : Settings) (boxes : List Mailbox) (inboxes : List Inbox) (before : S) (e : RunError S)
    (back : List Inbox) : Type 0 where
  pub mail : HaveMail jobs boxes inboxes
  pub same : back ≡ inboxes
  pub refused : LeavesRunInSink taken failures jobs s before e

-- U3 and U4: a refusal of what may be run, where there are a mailbox and an inbox for each job
pub record LeavesWithMail {S : Type 0} (taken : S → Option (List ℕ)) (failures : S → ℕ) (most : ℕ)
    (jobs : List JobState) (s : Settings) (boxes : List Mailbox) (inboxes : List Inbox) (before : S) (e : RunError S)
    (back : List Inbox) : Type 0 where
  pub mail : HaveMail jobs boxes inboxes
  pub late : LeavesLate true taken failures most jobs s inboxes before e back

-- What a refusal says and leaves, as of a run: a missing mailbox or inbox, or one of another job, counts with the
-- settings, so every other refusal says that the mailboxes and inboxes were those of the jobs.
abbrev pub LeavesLive : {S : Type 0} → (S → Option (List ℕ)) → (S → ℕ) → ℕ → List JobState → Settings → List Mailbox
    → List Inbox → S → RunError S → List Inbox → Type 0
LeavesLive taken failures most jobs s boxes inboxes before (fault.Settings sink) back =
    LeavesUnfit jobs s boxes inboxes before sink back
LeavesLive taken failures most jobs s boxes inboxes before (fault.ChannelTwice sink) back =
    LeavesEarly taken failures jobs s boxes inboxes before (fault.ChannelTwice sink) back
LeavesLive taken failures most jobs s boxes inboxes before (fault.Prologue sink) back =
    LeavesEarly taken failures jobs s boxes inboxes before (fault.Prologue sink) back
LeavesLive taken failures most jobs s boxes inboxes before (fault.Memory sink) back =
    LeavesWithMail taken failures most jobs s boxes inboxes before (fault.Memory sink) back
LeavesLive taken failures most jobs s boxes inboxes before (fault.Sink sink report count) back =
    LeavesWithMail taken failures most jobs s boxes inboxes before (fault.Sink sink report count) back
