-- What a channel's thread promises of what it returns, and what is known of all threads of a run.
use Rattle.std.specs.Prelude.{◌≡◌, ◌≢◌, ℕ, ◌+◌, ◌≤◌, ◌<◌, Bool, true, false, List, [], Some, length, map, take}
use Rattle.std.specs.Prelude.{slice_get}
use Rattle.std.specs.Prelude.{◌++◌, vec_capacity}
use Rattle.std.specs.List.{AllByRecursion}
use Rattle.bc_machine.specs.declared.placed.Placed.{Placed}
use Rattle.bc_machine.specs.Running.{MachineState}
use Rattle.std.specs.declared.thread.PromisedHandle.{PromisedHandle}
use Rattle.mil_trunk.specs.declared.trunk.Trunk.{Trunk}
use Rattle.mil_trunk.specs.declared.trunk.Ticket.{Ticket}
use Rattle.mil_trunk.specs.Tags.{has, bound_of, bounds_outside}
use Rattle.mil_trunk.specs.Views.{with_tag}
use Rattle.mil_trunk.specs.Ends.{IsTicketOf, capacity_of, tags_of, bounds_of, sent}
use Rattle.job_file.specs.declared.job_run.JobRun.{JobRun}
use Rattle.job_file.specs.Beside.{with_posts}
use Rattle.job_file.specs.Jobs.{JobState, job_in, said_in}
use Rattle.job_file.specs.Machines.{IsOf}
use Rattle.job_file.specs.Resolving.{standing, IsKept, MayPlan}
use Rattle.job_file.specs.Timed.{begun_beside, found_in, says_nothing}
use Rattle.ch11_builder.specs.Packet.{Numbered}
use Rattle.ch11_builder.specs.Recorded.{IsRecorded}
use Rattle.ch11_recording.specs.Items.{numbered}
use Rattle.bench_report.specs.Reports.{ChannelPart, Rises}
use Rattle.bench_settings.specs.Placing.{placed_up_to, IsOrdered}
use Rattle.bench_settings.specs.Kept.{kept_records}
use Rattle.bench_run.specs.declared.entry.Entry.{Entry}
use Rattle.bench_run.specs.declared.channel.Ended.{Ended}
use Rattle.bench_run.specs.declared.threads.Offers.{Offers}
use Rattle.bench_run.specs.declared.channel.Room.{Room}
use Rattle.bench_run.specs.declared.channel.Course.{Course}
use Rattle.bench_run.specs.declared.channel.Course.TheVariants.{ByNumber, AsItComes}
use Rattle.bench_mail.specs.declared.mailbox.Mailbox.{Mailbox}
use Rattle.bench_mail.specs.declared.mailbox.Inbox.{Inbox}
use Rattle.bench_run.specs.declared.posting.Posts.{Posts}
use Rattle.bench_run.specs.declared.threads.Joined.{Joined}
use Rattle.bench_mail.specs.Mail.{IsInboxOf}
use Rattle.bench_run.specs.Live.{IsRunAs, ArePlaced}
use Rattle.bench_run.specs.Posted.{IsPosted}
use Rattle.bench_run.specs.Entries.{index_of, entry_of, entries_to_the_end}
use Rattle.bench_run.specs.Runs.{records_of, kept_below, most_in_all, others_than}
use Rattle.job_file.specs.Rooms.{most_items}

-- What the thread of a job reports: all of the job's messages were made, and they are a bus monitor's; the placed
-- actions are the job's; a message was refused only where the capacity is at most what the channel kept before and what
-- the others may have sent.
pub record IsThreadReport (capacity others : ℕ) (job : JobState) (part : ChannelPart) : Type 0 where
  pub channel : part.channel ≡ job.channel
  pub channel_high : job.channel ≤ 65535
  pub made : part.made ≡ length (records_of job)
  pub made_high : part.made ≤ 1000000
  pub placed : part.placed ≡ placed_up_to part.made job.actions
  pub rising : Rises 0 part.made part.refused
  pub full : AllByRecursion (λ n. capacity ≤ kept_below n part.refused job + others) part.refused
  pub recorded : AllByRecursion (λ m. IsRecorded (numbered 0 m)) (records_of job)

-- a job of a run and what its thread reports, where these are the jobs that were given
abbrev pub IsCountedIn : ℕ → ℕ → List JobState → JobState → ChannelPart → Type 0
IsCountedIn capacity posts given job part =
    IsThreadReport capacity (most_in_all posts (others_than job.channel given)) job part

-- Each record of a job was offered once, in order: its ticket sent those that were not refused, and then the end mark.
-- `given` is the ticket as the thread got it.
pub record AllOffered (trunk : Trunk Entry) (given : Ticket Entry) (index : ℕ) (job : JobState) (t : Ticket Entry)
    (part : ChannelPart) : Type 0 where
  pub ours : IsTicketOf trunk t
  pub tags : tags_of t ≡ tags_of given
  pub bounds : bounds_of t ≡ bounds_of given
  pub all_sent : sent t ≡ entries_to_the_end index (kept_records part.refused (records_of job))
  pub counted : IsThreadReport (capacity_of trunk) (bounds_outside (tags_of given) (bounds_of given)) job part

-- A thread sent some records of its job, and then the end mark; its inbox is that of its mailbox.
pub record SentToTheEnd (trunk : Trunk Entry) (given : Ticket Entry) (index : ℕ) (box : Mailbox) (r : Ended)
    : Type 0 where
  pub ours : IsTicketOf trunk r.ticket
  pub tags : tags_of r.ticket ≡ tags_of given
  pub bounds : bounds_of r.ticket ≡ bounds_of given
  pub kept : List Numbered
  pub all_sent : sent r.ticket ≡ entries_to_the_end index kept
  pub inbox : IsInboxOf box r.inbox

-- The thread of a job took posts from its mailbox, at most `most` of them, and offered the records of the job with
-- these.
pub record OfferedWhole (trunk : Trunk Entry) (given : Ticket Entry) (index : ℕ) (is_live : Bool) (job : JobState)
    (most : ℕ) (before : Inbox) (r : Ended) : Type 0 where
  pub posts : List Placed
  pub live : JobState
  pub means : IsRunAs is_live most job posts live
  pub few : length (records_of live) < most_items most job
  pub placed : ArePlaced most r.part.made before r.inbox posts
  pub offered : AllOffered trunk given index live r.ticket r.part

-- What a thread returns: it sent its end mark in any case; where it was not cut off for want of memory, it offered all.
pub record Offered (trunk : Trunk Entry) (given : Ticket Entry) (index : ℕ) (is_live : Bool) (job : JobState)
    (box : Mailbox) (most : ℕ) (before : Inbox) (r : Ended) : Type 0 where
  pub ended : SentToTheEnd trunk given index box r
  pub whole : r.is_whole ≡ true → OfferedWhole trunk given index is_live job most before r

-- The same of the first `made` records, where these are the tags and bounds of the thread's ticket.
pub record RecordsOfferedSoFar (trunk : Trunk Entry) (own : ℕ) (limits : List ℕ) (index : ℕ) (job : JobState) (made : ℕ)
    (t : Ticket Entry) (refused : List ℕ) : Type 0 where
  pub ours : IsTicketOf trunk t
  pub tags : tags_of t ≡ own
  pub bounds : bounds_of t ≡ limits
  pub all_sent : sent t ≡ map (entry_of index) (kept_records refused (take made (records_of job)))
  pub count : length (take made (records_of job)) ≡ made
  pub rising : Rises 0 made refused
  pub full : AllByRecursion (λ n. capacity_of trunk ≤ kept_below n refused job + bounds_outside own limits) refused
  pub recorded : AllByRecursion (λ m. IsRecorded (numbered 0 m)) (take made (records_of job))

-- The same of the job with the posts that were placed so far, where the controller stands behind as many messages.
pub record IsThreadStage (trunk : Trunk Entry) (own : ℕ) (limits : List ℕ) (index : ℕ) (most : ℕ) (before : Inbox)
    (job : JobState) (m : MachineState) (t : Ticket Entry) (refused : List ℕ) (p : Posts) : Type 0 where
  pub posted : IsPosted most before job m p
  pub so_far : RecordsOfferedSoFar trunk own limits index (with_posts job posted.posts) m.point.number t refused

-- a controller at the job's beginning, whose actions and faults stand at their numbers, with the job's actions in their
-- order; in a live run no line of the job is by time or by command
pub record StartsByNumber (is_live : Bool) (job : JobState) (m : MachineState) (p : Posts) : Type 0 where
  pub machine : IsOf (job_in job) job.actions m
  pub first : m.point.number ≡ 0
  pub ordered : p.ordered.actions ≡ placed_up_to 1000000 job.actions
  pub plain : is_live ≡ true → says_nothing job.timed ≡ true

-- a controller at the job's beginning, with what its lines say by time and by command still to come
pub record StartsBeside (is_live : Bool) (most : ℕ) (job : JobState) (r : JobRun) : Type 0 where
  pub live : is_live ≡ true
  pub timed : says_nothing job.timed ≡ false
  pub beginning : standing r ≡ begun_beside most (said_in job) job.timed
  pub faults : r.faults.faults ≡ found_in job.timed
  pub kept : IsKept r
  pub planned : MayPlan r

abbrev pub IsCourseOf : Bool → JobState → Posts → Course → Type 0
IsCourseOf is_live job p (ByNumber m) = StartsByNumber is_live job m p
IsCourseOf is_live job p (AsItComes r) = StartsBeside is_live p.left job r

-- what a thread takes along fits its job: the controller at the job's beginning, an empty list with room for all
-- numbers, and ordered actions
pub record IsRoom (job : JobState) (room : Room) : Type 0 where
  pub course : IsCourseOf room.is_live job room.posts room.course
  pub empty : room.refused.items ≡ []
  pub capacity : most_items room.posts.left job ≤ vec_capacity room.refused
  pub fit : IsOrdered room.posts.ordered.actions

-- What the thread of the job at an index begins with: a ticket that has sent nothing, has the tag of the index, and may
-- send all items of the job, and what fits the job, with the inbox of its mailbox.
pub record MayOffer (trunk : Trunk Entry) (ticket : Ticket Entry) (index : ℕ) (job : JobState) (box : Mailbox)
    (room : Room) : Type 0 where
  pub ours : IsTicketOf trunk ticket
  pub unsent : sent ticket ≡ []
  pub tag : has (tags_of ticket) index ≡ true
  pub bound : bound_of (bounds_of ticket) index ≡ most_items room.posts.left job
  pub fits : IsRoom job room
  pub inbox : IsInboxOf box room.posts.inbox

-- it is the promise of the thread that was given these
pub record IsPromiseOf (trunk : Trunk Entry) (ticket : Ticket Entry) (index : ℕ) (job : JobState) (box : Mailbox)
    (room : Room) (p : Offers) : Type 0 where
  pub trunk_is : p.trunk.now ≡ trunk
  pub ticket_is : p.ticket.value ≡ ticket
  pub index_is : p.index ≡ index
  pub job_is : p.job.now ≡ job
  pub box_is : p.mailbox.now ≡ box
  pub most_is : p.most ≡ room.posts.left
  pub is_live_is : p.is_live ≡ room.is_live
  pub inbox_is : p.inbox.value ≡ room.posts.inbox

-- the set has one tag alone
abbrev pub HasOnly : ℕ → ℕ → Type 0
HasOnly index tags = (has tags index ≡ true) × ((t : ℕ) → t ≢ index → has tags t ≡ false)

-- it is the promise of the thread of the job at an index
pub record IsPromised (trunk : Trunk Entry) (bounds : List ℕ) (is_live : Bool) (jobs : List JobState) (most : ℕ)
    (boxes : List Mailbox) (inboxes : List Inbox) (index : ℕ) (p : Offers) : Type 0 where
  pub trunk_is : p.trunk.now ≡ trunk
  pub index_is : p.index ≡ index
  pub job_is : slice_get jobs index ≡ Some p.job.now
  pub tags : HasOnly index (tags_of p.ticket.value)
  pub bounds_are : bounds_of p.ticket.value ≡ bounds
  pub most_is : p.most ≡ most
  pub is_live_is : p.is_live ≡ is_live
  pub box_is : slice_get boxes index ≡ Some p.mailbox.now
  pub inbox_is : slice_get inboxes index ≡ Some p.inbox.value

-- the handles are those of the threads of the first jobs
abbrev pub ArePromised : Trunk Entry → List ℕ → Bool → List JobState → ℕ → List Mailbox → List Inbox
    → List (PromisedHandle Ended Offers) → Type 0
ArePromised trunk bounds is_live jobs most boxes inboxes handles =
    (k : ℕ) (h : PromisedHandle Ended Offers) → slice_get handles k ≡ Some h
    → IsPromised trunk bounds is_live jobs most boxes inboxes k h.promise

-- What is known of a thread that was joined and was not cut off, and of the entries of its index, where the others may
-- have sent so many.
pub record IsThreadEnded (capacity others index : ℕ) (is_live : Bool) (job : JobState) (most : ℕ) (before : Inbox)
    (j : Joined) (own : List Entry) : Type 0 where
  pub posts : List Placed
  pub live : JobState
  pub means : IsRunAs is_live most job posts live
  pub few : length (records_of live) < most_items most job
  pub placed : ArePlaced most j.part.made before j.inbox posts
  pub own_are : own ≡ entries_to_the_end index (kept_records j.part.refused (records_of live))
  pub counted : IsThreadReport capacity others live j.part

-- What is known of a thread that was joined, where its ticket was taken in: what it sent stands behind what was sent.
pub record IsTakenIn (trunk : Trunk Entry) (p : Offers) (before after : Ticket Entry) (j : Joined) : Type 0 where
  pub own : List Entry
  pub grown : sent after ≡ sent before ++ own
  pub kept : List Numbered
  pub own_are : own ≡ entries_to_the_end p.index kept
  pub inbox : IsInboxOf p.mailbox.now j.inbox
  pub ended : j.is_whole ≡ true → IsThreadEnded (capacity_of trunk)
      (bounds_outside (tags_of p.ticket.value) (bounds_of p.ticket.value)) p.index p.is_live
      p.job.now p.most p.inbox.value j own

-- the same of each thread that was joined
abbrev pub AreEnded : ℕ → List Entry → Bool → List JobState → ℕ → List Mailbox → List Inbox → List Joined → Type 0
AreEnded capacity entries is_live jobs most boxes inboxes joined =
    (k : ℕ) (j : Joined) → slice_get joined k ≡ Some j
    → (job : JobState) (box : Mailbox) (before : Inbox) → slice_get jobs k ≡ Some job → slice_get boxes k ≡ Some box
    → slice_get inboxes k ≡ Some before
    → IsInboxOf box j.inbox
    × (j.is_whole ≡ true → IsThreadEnded capacity (most_in_all most (others_than job.channel jobs)) k is_live job most
    before j (with_tag index_of k entries))

-- Each job whose thread was joined has the part of it, and the entries of its index are its records but for the
-- refused, and then its end mark.
abbrev pub AreJoined : ℕ → ℕ → List Entry → List JobState → List JobState → List ChannelPart → Type 0
AreJoined capacity most entries given jobs parts =
    (k : ℕ) (job : JobState) (part : ChannelPart) → slice_get jobs k ≡ Some job → slice_get parts k ≡ Some part
    → IsCountedIn capacity most given job part
    × (with_tag index_of k entries ≡ entries_to_the_end k (kept_records part.refused (records_of job)))
