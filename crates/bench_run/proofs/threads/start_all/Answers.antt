use Rattle.std.proofs.Common.{rules, arith, refl, sym, ap, ◌∙◌, ◌≡◌, ◌<◌, ◌+◌, ℕ, suc, length, vec_len, subst}
use Rattle.std.specs.Prelude.{Some, slice_get}
use Rattle.std.proofs.lemmas.Option.{slice_get_read}
use Rattle.mil_trunk.specs.Tags.{bound_of}
use Rattle.mil_trunk.specs.Ends.{bounds_of, tags_of}
use Rattle.mil_trunk.specs.declared.trunk.Ticket.{Ticket}
use Rattle.job_file.specs.Jobs.{JobState}
use Rattle.job_file.specs.Rooms.{most_items}
use Rattle.bench_run.specs.declared.entry.Entry.{Entry}
use Rattle.bench_mail.specs.declared.mailbox.Mailbox.{Mailbox}
use Rattle.bench_mail.specs.declared.mailbox.Inbox.{Inbox}
use Rattle.bench_run.specs.Threads.{IsRoom, IsPromised, HasOnly}
use Rattle.bench_run.specs.declared.channel.Room.{Room}
use Rattle.bench_run.proofs.Rows.{row_push, row_first, row_rest, pair_at, pairs_length, none_at, mapped_at, all_at}
use Rattle.bench_run.proofs.Sums.{bound_at}
use Rattle.bench_run.proofs.threads.start_all.Goals as goal

pub loop-room-init : goal.loop-room-init
loop-room-init g c =
    let jobs = c.args.before.now.jobs.now in
    let long = pairs_length IsRoom jobs c.args.rooms.items c.requires.rooms in
    let all : length c.args.rooms.items ≡ vec_len c.args.rooms = search rules in
    let none : length c.args.handles.items ≡ vec_len c.args.handles = search rules in
    let empty = ap length c.requires.handles.0 in
    let gives = c.into_iter-room-iterator.ensures.into_iter_gives in
    record {
      ours = (c.requires.ticket.0, c.requires.ticket.1, refl);
      left = omega (arith, long, all, none, empty, gives.1);
      tags = λ t low high. c.requires.tags t low;
      capacity = c.requires.handles.1;
      rooms = λ k room at job at_job. pair_at IsRoom jobs c.args.rooms.items c.requires.rooms k job room (subst (λ m. slice_get jobs m ≡ Some job) (let z : vec_len c.args.handles + k ≡ k = omega (arith, none, empty) in z) at_job) (ap (λ l. slice_get l k) (sym gives.0) ∙ at);
      inboxes = λ k room at.
          let at_room : slice_get c.args.rooms.items k ≡ Some room = ap (λ l. slice_get l k) (sym gives.0) ∙ at in
          let place : k ≡ vec_len c.args.handles + k = omega (arith, none, empty) in (
            subst (λ m. slice_get c.args.before.now.inboxes.value.items m ≡ Some room.posts.inbox) place (mapped_at (λ (x : Room). x.posts.inbox) c.args.rooms.items c.args.before.now.inboxes.value.items k room c.requires.inboxes_are at_room),
            all_at (λ (x : Room). x.posts.left ≡ c.args.before.now.most) c.args.rooms.items k room c.requires.most at_room,
            all_at (λ (x : Room). x.is_live ≡ c.args.before.now.is_live) c.args.rooms.items k room c.requires.live at_room,
          );
      promised = λ k h at. absurd (none_at c.args.handles.items k h c.requires.handles.0 at);
    }

pub start-requires-clause-begins : goal.start-requires-clause-begins
start-requires-clause-begins g c κs within =
    let step = c.in-Some.ensures.steps in
    let part = c.part_off-ticket.ensures in
    let jobs = c.args.before.now.jobs.now in
    let boxes = c.args.before.now.boxes.now in
    let inboxes = c.args.before.now.inboxes.value.items in
    let n = vec_len c.loop-room.handles in
    let i = c.len-index.result in
    let place : n + 0 ≡ i = omega (arith, c.len-index.ensures) in
    let lt : i < length jobs = omega (arith, c.len-index.ensures, step.1, c.loop-room.invariant.left) in
    let lt_box : i < length boxes = omega (arith, lt, c.requires.boxes) in
    let at : slice_get jobs i ≡ Some c.index-jobs-index.result = slice_get_read jobs (length jobs) i c.index-jobs-index.result refl lt c.index-jobs-index.is in
    let at_box : slice_get boxes i ≡ Some c.index-boxes-index.result = slice_get_read boxes (length boxes) i c.index-boxes-index.result refl lt_box c.index-boxes-index.is in
    let room = row_first (λ k room. (job : JobState) → slice_get jobs (n + k) ≡ Some job → IsRoom job room) _ _ c.in-Some.room step.0 c.loop-room.invariant.rooms in
    let inbox = row_first (λ k room. (slice_get inboxes (n + k) ≡ Some room.posts.inbox) × (room.posts.left ≡ c.args.before.now.most) × (room.is_live ≡ c.args.before.now.is_live)) _ _ c.in-Some.room step.0 c.loop-room.invariant.inboxes in
    record {
      ours = part.tickets.1;
      unsent = part.sent.1;
      tag = part.tags.0;
      bound = ap (λ l. bound_of l i) (part.bounds.1 ∙ c.loop-room.invariant.ours.2 ∙ c.requires.bounds) ∙ bound_at c.args.before.now.most jobs i c.index-jobs-index.result at
          ∙ ap (λ most. most_items most c.index-jobs-index.result) (sym inbox.1);
      fits = room c.index-jobs-index.result (subst (λ m. slice_get jobs m ≡ Some c.index-jobs-index.result) (sym place) at);
      inbox = c.requires.inboxes i c.index-boxes-index.result c.in-Some.room.posts.inbox at_box (subst (λ k. slice_get inboxes k ≡ Some c.in-Some.room.posts.inbox) place inbox.0);
    }

pub loop-room-preserved : goal.loop-room-preserved
loop-room-preserved g c =
    let was = c.loop-room.invariant in
    let step = c.in-Some.ensures.steps in
    let pushed = c.push_reserved.ensures in
    let start = c.in-Some-start.ensures in
    let part = c.part_off-ticket.ensures in
    let jobs = c.args.before.now.jobs.now in
    let n = vec_len c.loop-room.handles in
    let long : length c.loop-room.handles.items ≡ n = search rules in
    let is : c.len-index.result ≡ n = c.len-index.ensures in
    let lt : c.len-index.result < length jobs = omega (arith, c.len-index.ensures, step.1, c.loop-room.invariant.left) in
    let at : slice_get jobs c.len-index.result ≡ Some c.index-jobs-index.result = slice_get_read jobs (length jobs) c.len-index.result c.index-jobs-index.result refl lt c.index-jobs-index.is in
    let inboxes = c.args.before.now.inboxes.value.items in
    let boxes = c.args.before.now.boxes.now in
    let lt_box : c.len-index.result < length boxes = omega (arith, lt, c.requires.boxes) in
    let at_box : slice_get boxes c.len-index.result ≡ Some c.index-boxes-index.result = slice_get_read boxes (length boxes) c.len-index.result c.index-boxes-index.result refl lt_box c.index-boxes-index.is in
    let first = row_first (λ k room. (slice_get inboxes (n + k) ≡ Some room.posts.inbox) × (room.posts.left ≡ c.args.before.now.most) × (room.is_live ≡ c.args.before.now.is_live)) _ _ c.in-Some.room step.0 was.inboxes in
    let here : n + 0 ≡ n = omega arith in
    record {
      ours = (part.tickets.0, part.sent.0, part.bounds.0 ∙ was.ours.2);
      left = omega (arith, pushed.len, step.1, was.left);
      tags = λ t low high. part.left t (λ e. absurd (omega (arith, pushed.len, is, e, high))) ∙ was.tags t low (omega (arith, pushed.len, high));
      capacity = omega (arith, pushed.capacity, was.capacity);
      rooms = λ k room at_room job at_job. row_rest (λ i x. (j : JobState) → slice_get jobs (n + i) ≡ Some j → IsRoom j x) _ _ c.in-Some.room step.0 was.rooms k room at_room job
          (let more : vec_len c.push_reserved.new.self + k ≡ n + suc k = omega (arith, pushed.len) in subst (λ m. slice_get jobs m ≡ Some job) more at_job);
      inboxes = λ k room at_room.
          let next = row_rest (λ i x. (slice_get inboxes (n + i) ≡ Some x.posts.inbox) × (x.posts.left ≡ c.args.before.now.most) × (x.is_live ≡ c.args.before.now.is_live)) _ _ c.in-Some.room step.0 was.inboxes k room at_room in
          let more : n + suc k ≡ vec_len c.push_reserved.new.self + k = omega (arith, pushed.len) in (
            subst (λ m. slice_get inboxes m ≡ Some room.posts.inbox) more next.0,
            next.1,
            next.2,
          );
      promised = row_push (λ k h. IsPromised c.args.context.now.trunk.now (bounds_of c.args.rest.now) c.args.before.now.is_live jobs c.args.before.now.most c.args.before.now.boxes.now c.args.before.now.inboxes.value.items k h.promise) n c.loop-room.handles.items c.push_reserved.new.self.items c.in-Some-start.handle
          long pushed.items was.promised
          (record {
            trunk_is = start.trunk_is;
            index_is = start.index_is ∙ is;
            job_is = subst (λ m. slice_get jobs m ≡ Some c.index-jobs-index.result) is at ∙ ap (λ (j : JobState). Some j) (sym start.job_is);
            most_is = start.most_is ∙ first.1;
            is_live_is = start.is_live_is ∙ first.2;
            box_is = subst (λ m. slice_get boxes m ≡ Some c.index-boxes-index.result) is at_box ∙ ap (λ (b : Mailbox). Some b) (sym start.box_is);
            inbox_is = subst (λ m. slice_get inboxes m ≡ Some c.in-Some.room.posts.inbox) here first.0 ∙ ap (λ (i : Inbox). Some i) (sym start.inbox_is);
            tags = subst (λ (y : Ticket Entry × ℕ). HasOnly y.1 (tags_of y.0)) (λ i. (sym start.ticket_is i, is i)) part.tags;
            bounds_are = ap bounds_of start.ticket_is ∙ part.bounds.1 ∙ was.ours.2;
          });
    }
