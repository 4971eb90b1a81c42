-- The end of a run: every channel has ended, and the writer has received all that was sent.
use Rattle.std.specs.Prelude.{◌≡◌, ℕ, ◌<◌, ◌≤◌, Bool, true, List, [], Option, Some, length, map, slice_get}
use Rattle.std.specs.Prelude.{Result}
use Rattle.std.specs.Global.{Vec}
use Rattle.std.specs.List.{AllByRecursion}
use Rattle.job_file.specs.Jobs.{JobState}
use Rattle.mil_trunk.specs.declared.trunk.Trunk.{Trunk}
use Rattle.mil_trunk.specs.Views.{with_tag}
use Rattle.mil_trunk.specs.Tags.{has}
use Rattle.mil_trunk.specs.Ends.{IsTicketOf, IsTakerOf, capacity_of, tags_of, bounds_of, bounds_in, sent, received}
use Rattle.bench_report.specs.Reports.{ChannelPart, RunReport}
use Rattle.ch11_recording.specs.Recording.{Recording}
use Rattle.bench_settings.specs.Lawful.{AreLawful, channels_of}
use Rattle.bench_settings.specs.Kept.{kept_records}
use Rattle.bench_run.specs.declared.entry.Entry.{Entry}
use Rattle.bench_run.specs.Entries.{index_of, entries_to_the_end}
use Rattle.bench_run.specs.declared.ending.Before.{Before}
use Rattle.bench_run.specs.declared.ready.Own.{Own}
use Rattle.bench_run.specs.declared.channel.Room.{Room}
use Rattle.bench_mail.specs.declared.mailbox.Inbox.{Inbox}
use Rattle.bench_run.specs.declared.error.LiveError.{LiveError}
use Rattle.bench_run.specs.Runs.{ArePairs, records_of, most_in_all}
use Rattle.job_file.specs.Rooms.{most_items}
use Rattle.bench_run.specs.Threads.{IsRoom, IsCountedIn}
use Rattle.bench_run.specs.Live.{AreRunAs, AreInboxesOf, RanOrLeftAs}
use Rattle.bench_run.specs.Writer.{IsRunLogged}

-- what the writer received: of each job its records but for the refused, and its end mark, and nothing else
pub record IsAll (capacity most : ℕ) (given jobs : List JobState) (parts : List ChannelPart)
    (got : List Entry) : Type 0 where
  pub counted : ArePairs (IsCountedIn capacity most given) jobs parts
  pub own : (k : ℕ) (job : JobState) (part : ChannelPart) → slice_get jobs k ≡ Some job → slice_get parts k ≡ Some part
      → with_tag index_of k got ≡ entries_to_the_end k (kept_records part.refused (records_of job))
  pub others : (t : ℕ) → length jobs ≤ t → with_tag index_of t got ≡ []

-- the same of the jobs with the posts that were placed
pub record IsAllLive (capacity : ℕ) (is_live : Bool) (most : ℕ) (jobs : List JobState) (before after : List Inbox)
    (parts : List ChannelPart) (got : List Entry) : Type 0 where
  pub lives : List JobState
  pub live : AreRunAs is_live most jobs before after parts lives
  pub all : IsAll capacity most jobs lives parts got

-- What a run begins with: a trunk of the queue's capacity with nothing in it, the ticket of all tags and the taker, a
-- thread's room for each job with its inbox, and the jobs' channels.
pub record IsReady (capacity : ℕ) (is_live : Bool) (jobs : List JobState) (most : ℕ) (inboxes : List Inbox)
    (trunk : Trunk Entry) (channels : List ℕ) (own : Own) : Type 0 where
  pub ticket : IsTicketOf trunk own.ticket
  pub taker : IsTakerOf trunk own.taker
  pub capacity_is : capacity_of trunk ≡ capacity
  pub unsent : sent own.ticket ≡ []
  pub unreceived : received own.taker ≡ []
  pub tags : (t : ℕ) → t < 64 → has (tags_of own.ticket) t ≡ true
  pub bounds : bounds_of own.ticket ≡ map (most_items most) jobs
  pub taker_bounds : bounds_in own.taker ≡ map (most_items most) jobs
  pub few : most_in_all most jobs ≤ 34097184
  pub rooms : ArePairs IsRoom jobs own.rooms.items
  pub inboxes_are : map (λ (room : Room). room.posts.inbox) own.rooms.items ≡ inboxes
  pub most_are : AllByRecursion (λ (room : Room). room.posts.left ≡ most) own.rooms.items
  pub are_live : AllByRecursion (λ (room : Room). room.is_live ≡ is_live) own.rooms.items
  pub channels_are : channels ≡ channels_of jobs

-- What the threads of a run begin with: lawful jobs with a mailbox and an inbox each, all that the threads need, and a
-- recording of the prologue alone.
pub record MayStart {S : Type 0} (taken : S → Option (List ℕ)) (failures : S → ℕ) (before : Before S)
    (trunk : Trunk Entry) (channels : List ℕ) (own : Own) (recorder : Recording S) (whole : Bool) : Type 0 where
  pub lawful : AreLawful before.jobs.now before.settings.now
  pub mailboxes : length before.boxes.now ≡ length before.jobs.now
  pub ends : AreInboxesOf before.boxes.now before.inboxes.value.items
  pub ready : IsReady before.settings.now.queue before.is_live before.jobs.now before.most before.inboxes.value.items
      trunk channels own
  pub logged : IsRunLogged taken failures before.settings.now before.sink.value (channels_of before.jobs.now) []
      recorder whole

-- it is the answer of a run that began with these
abbrev pub AnswersRun : {S : Type 0} → (S → Option (List ℕ)) → (S → ℕ) → Before S
    → Result (RunReport × Vec Inbox × S) (LiveError S) → Type 0
AnswersRun taken failures before answer = RanOrLeftAs before.is_live taken failures before.most before.jobs.now
    before.settings.now before.boxes.now before.inboxes.value.items before.sink.value answer
