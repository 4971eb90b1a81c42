-- What a channel's thread came to, whichever way it ran its job.
use Rattle.std.proofs.Common.{◌≡◌, ℕ, ◌≤◌, Bool, true, false, List, [], ◌∷◌, ◌++◌, take, refl, sym, ap, ◌∙◌, subst}
use Rattle.std.specs.Prelude.{not, vec_capacity}
use Rattle.mil_trunk.specs.declared.trunk.Trunk.{Trunk}
use Rattle.mil_trunk.specs.declared.trunk.Ticket.{Ticket}
use Rattle.mil_trunk.specs.Ends.{IsTicketOf, capacity_of, tags_of, bounds_of, sent}
use Rattle.mil_trunk.specs.Tags.{bounds_outside}
use Rattle.bc_machine.specs.declared.placed.Placed.{Placed}
use Rattle.bc_machine.specs.Posting.{with_room}
use Rattle.bc_machine.specs.Running.{MachineState}
use Rattle.bc_machine.specs.UnderWay.{IsUnderWay}
use Rattle.job_file.specs.Beside.{with_posts, IsLiveIn, IsPlayedBeside}
use Rattle.job_file.specs.declared.job_run.JobRun.{JobRun}
use Rattle.job_file.specs.Jobs.{JobState, job_in, said_in}
use Rattle.job_file.specs.Machines.{IsOf}
use Rattle.job_file.specs.Rooms.{most_items}
use Rattle.job_file.specs.Resolving.{standing, IsKept, MayPlan}
use Rattle.job_file.specs.Timed.{says_nothing, begun_beside, found_in}
use Rattle.bench_mail.specs.declared.mailbox.Mailbox.{Mailbox}
use Rattle.bench_mail.specs.declared.mailbox.Inbox.{Inbox}
use Rattle.bench_run.specs.declared.threads.Joined.{Joined}
use Rattle.bench_mail.specs.Mail.{IsInboxOf}
use Rattle.bench_report.specs.Reports.{ChannelPart}
use Rattle.bench_run.specs.declared.threads.Offers.{Offers}
use Rattle.bench_settings.specs.Kept.{kept_records}
use Rattle.bench_settings.specs.Placing.{placed_up_to, IsOrdered}
use Rattle.bench_run.specs.declared.posting.Posts.{Posts}
use Rattle.bench_run.specs.declared.channel.Ended.{Ended}
use Rattle.bench_run.specs.declared.channel.Room.{Room}
use Rattle.bench_run.specs.declared.entry.Entry.{Entry}
use Rattle.bench_run.specs.declared.entry.Entry.TheVariants as entry
use Rattle.bench_run.specs.Entries.{entries_to_the_end}
use Rattle.bench_run.specs.Live.{IsRunAs, ArePlaced}
use Rattle.bench_run.specs.Runs.{records_of}
use Rattle.bench_run.specs.Threads.{RecordsOfferedSoFar, SentToTheEnd, Offered, IsThreadReport, IsThreadEnded, IsTakenIn, StartsByNumber, StartsBeside, IsCourseOf, IsRoom}
use Rattle.bench_run.proofs.PlacedPosts.{with_more_room}

-- ---- the beginning

pub is_so : (b : Bool) → not b ≡ false → b ≡ true
is_so true e = refl
is_so false e = absurd cc

pub is_not : (b : Bool) → not b ≡ true → b ≡ false
is_not true e = absurd cc
is_not false e = refl

-- a job with no line by time or by command, or one that is not run live
pub course_by_number : (is_live : Bool) (job : JobState) (m x : MachineState) (count : ℕ) → x ≡ with_room m count → IsUnderWay x → IsOf (job_in job) job.actions m → m.point.number ≡ 0
    → (is_live ≡ true → says_nothing job.timed ≡ true) → (p : Posts) → p.ordered.actions ≡ placed_up_to 1000000 job.actions → StartsByNumber is_live job x p
course_by_number is_live job m x count is under_way of first plain p ordered = record {
  machine = with_more_room (job_in job) job.actions m x count is under_way of;
  first = ap (λ (z : MachineState). z.point.number) is ∙ first;
  ordered = ordered;
  plain = plain;
}

-- one whose lines come to be due as it goes on
pub course_beside : (is_live : Bool) (most : ℕ) (job : JobState) (r : JobRun) → is_live ≡ true → says_nothing job.timed ≡ false → standing r ≡ begun_beside most (said_in job) job.timed
    → r.faults.faults ≡ found_in job.timed → IsKept r → MayPlan r → (p : Posts) → p.left ≡ most → StartsBeside is_live p.left job r
course_beside is_live most job r live timed beginning faults kept planned p left = record {
  live = live;
  timed = timed;
  beginning = beginning ∙ ap (λ k. begun_beside k (said_in job) job.timed) (sym left);
  faults = faults;
  kept = kept;
  planned = planned;
}

-- what a thread takes along
pub room_is : (job : JobState) (is_live : Bool) (most : ℕ) (room : Room) → ((p : Posts) → p.left ≡ most → p.ordered.actions ≡ placed_up_to 1000000 job.actions → IsCourseOf is_live job p room.course)
    → room.is_live ≡ is_live → room.posts.left ≡ most → room.posts.ordered.actions ≡ placed_up_to 1000000 job.actions → IsOrdered (placed_up_to 1000000 job.actions)
    → room.refused.items ≡ [] → most_items most job ≤ vec_capacity room.refused → IsRoom job room
room_is job is_live most room course live left ordered fit empty capacity = record {
  course = subst (λ b. IsCourseOf b job room.posts room.course) (sym live) (course room.posts left ordered);
  empty = empty;
  capacity = subst (λ k. most_items k job ≤ vec_capacity room.refused) (sym left) capacity;
  fit = subst IsOrdered (sym ordered) fit;
}

-- ---- what was sent

-- some records were offered, and then the end mark was kept
pub sent_all : (trunk : Trunk Entry) (given : Ticket Entry) (index : ℕ) (box : Mailbox) (job : JobState) (made : ℕ) (t : Ticket Entry) (refused : List ℕ) (r : Ended)
    → RecordsOfferedSoFar trunk (tags_of given) (bounds_of given) index job made t refused
    → IsTicketOf trunk r.ticket → tags_of r.ticket ≡ tags_of t → bounds_of r.ticket ≡ bounds_of t → sent r.ticket ≡ sent t ++ entry.End index ∷ [] → IsInboxOf box r.inbox
    → SentToTheEnd trunk given index box r
sent_all trunk given index box job made t refused r st ours tags bounds more inbox = record {
  ours = ours;
  tags = tags ∙ st.tags;
  bounds = bounds ∙ st.bounds;
  kept = kept_records refused (take made (records_of job));
  all_sent = more ∙ ap (λ (l : List Entry). l ++ entry.End index ∷ []) st.all_sent;
  inbox = inbox;
}

-- where no line is by time or by command, the job is the given one with the posts
plain_means : (plain : Bool) → plain ≡ true → (most : ℕ) (job : JobState) (posts : List Placed) → IsLiveIn plain most job posts (with_posts job posts)
plain_means true is most job posts = refl
plain_means false is most job posts = absurd cc

pub by_number_means : (is_live : Bool) (most : ℕ) (job : JobState) (posts : List Placed) → (is_live ≡ true → says_nothing job.timed ≡ true) → IsRunAs is_live most job posts (with_posts job posts)
by_number_means true most job posts plain = plain_means (says_nothing job.timed) (plain refl) most job posts
by_number_means false most job posts plain = refl

-- where one is
pub beside_means : (is_live : Bool) (most : ℕ) (job : JobState) (posts : List Placed) (live : JobState) → is_live ≡ true → says_nothing job.timed ≡ false → IsPlayedBeside most job posts live
    → IsRunAs is_live most job posts live
beside_means is_live most job posts live live_run timed is =
    subst (λ b. IsRunAs b most job posts live) (sym live_run) (subst (λ b. IsLiveIn b most job posts live) (sym timed) is)

-- what is known of a thread that ended, by the numbers of the run
pub ended_as : (capacity others others' index index' : ℕ) (is_live is_live' : Bool) (job : JobState) (most most' : ℕ) (before : Inbox) (j : Joined) (own own' : List Entry)
    → IsThreadEnded capacity others index is_live job most before j own → others ≡ others' → index ≡ index' → is_live ≡ is_live' → most ≡ most' → own' ≡ own
    → IsThreadEnded capacity others' index' is_live' job most' before j own'
ended_as capacity others others' index index' is_live is_live' job most most' before j own own' is same place live same_most mine =
    subst (λ (z : ℕ × ℕ × Bool × ℕ × List Entry). IsThreadEnded capacity z.0 z.1 z.2 job z.3 before j z.4) (λ i. (same i, place i, live i, same_most i, sym mine i)) is

-- ---- a thread that was joined

-- what its ticket sent stands behind what was sent
pub taken_in : (trunk : Trunk Entry) (p : Offers) (before after : Ticket Entry) (r : Ended) (j : Joined) → p.trunk.now ≡ trunk
    → Offered p.trunk.now p.ticket.value p.index p.is_live p.job.now p.mailbox.now p.most p.inbox.value r → sent after ≡ sent before ++ sent r.ticket
    → j.part ≡ r.part → j.inbox ≡ r.inbox → j.is_whole ≡ r.is_whole → IsTakenIn trunk p before after j
taken_in trunk p before after r j same offered grown part inbox whole = record {
  own = sent r.ticket;
  grown = grown;
  kept = offered.ended.kept;
  own_are = offered.ended.all_sent;
  inbox = subst (IsInboxOf p.mailbox.now) (sym inbox) offered.ended.inbox;
  ended = λ yes.
      let w = offered.whole (sym whole ∙ yes) in
      record {
        posts = w.posts;
        live = w.live;
        means = w.means;
        few = w.few;
        placed = subst (λ (z : ChannelPart × Inbox). ArePlaced p.most z.0.made p.inbox.value z.1 w.posts) (λ i. (sym part i, sym inbox i)) w.placed;
        own_are = w.offered.all_sent ∙ ap (λ (c : ChannelPart). entries_to_the_end p.index (kept_records c.refused (records_of w.live))) (sym part);
        counted = subst (λ (z : Trunk Entry × ChannelPart). IsThreadReport (capacity_of z.0) (bounds_outside (tags_of p.ticket.value) (bounds_of p.ticket.value)) w.live z.1) (λ i. (same i, sym part i)) w.offered.counted;
      };
}
