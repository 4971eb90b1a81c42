use Rattle.std.proofs.Common.{rules, arith, refl, sym, ap, ◌∙◌, ◌≡◌, ◌<◌, ◌++◌, ◌∷◌, [], length, map, vec_len, subst}
use Rattle.std.specs.Prelude.{Some, slice_get}
use Rattle.std.specs.Vec.Iter.{into_iter_items}
use Rattle.std.proofs.lemmas.List.{map-append, append_assoc}
use Rattle.std.proofs.lemmas.Option.{slice_get_read}
use Rattle.job_file.specs.Jobs.{JobState}
use Rattle.bench_run.specs.declared.channel.Room.{Room}
use Rattle.bench_run.specs.Threads.{IsRoom}
use Rattle.bench_run.proofs.Offering.{all_more}
use Rattle.bench_run.proofs.Rows.{row_push, pairs_of, same_some}
use Rattle.bench_run.proofs.threads.rooms.Goals as goal

pub loop-inbox-preserved : goal.loop-inbox-preserved
loop-inbox-preserved c =
    let was = c.loop-inbox.invariant in
    let step = c.in-Some.ensures.steps in
    let jobs = c.args.jobs.now in
    let n = vec_len c.loop-inbox.rooms in
    let job = c.index-jobs-len.result in
    let room = c.in_ok-room_for.field-0 in
    let pushed = c.push_reserved.ensures in
    let long : length c.loop-inbox.rooms.items ≡ n = search rules in
    let lt : n < length jobs = omega (arith, was.left, step.1) in
    let lt' : c.len.result < length jobs = omega (arith, lt, c.len.ensures) in
    let at : slice_get jobs n ≡ Some job = subst (λ k. slice_get jobs k ≡ Some job) c.len.ensures (slice_get_read jobs (length jobs) c.len.result job refl lt' c.index-jobs-len.is) in
    record {
      left = omega (arith, pushed.len, step.1, was.left);
      capacity = omega (arith, pushed.capacity, was.capacity);
      each = row_push (λ k r. (j : JobState) → slice_get jobs k ≡ Some j → IsRoom j r) n c.loop-inbox.rooms.items c.push_reserved.new.self.items room long pushed.items was.each
          (λ j at_j. let is : job ≡ j = same_some (sym at ∙ at_j) in subst (λ (z : JobState). IsRoom z room) is c.in_ok-room_for.ensures.room);
      inboxes = ap (λ l. map (λ (r : Room). r.posts.inbox) l ++ into_iter_items c.next.new.self) pushed.items
          ∙ ap (λ l. l ++ into_iter_items c.next.new.self) (map-append (λ (r : Room). r.posts.inbox) c.loop-inbox.rooms.items (room ∷ []))
          ∙ append_assoc (map (λ (r : Room). r.posts.inbox) c.loop-inbox.rooms.items) (room.posts.inbox ∷ []) (into_iter_items c.next.new.self)
          ∙ ap (λ i. map (λ (r : Room). r.posts.inbox) c.loop-inbox.rooms.items ++ i ∷ into_iter_items c.next.new.self) c.in_ok-room_for.ensures.inbox
          ∙ ap (λ l. map (λ (r : Room). r.posts.inbox) c.loop-inbox.rooms.items ++ l) (sym step.0) ∙ was.inboxes;
      most = rw pushed.items (all_more (λ (r : Room). r.posts.left ≡ c.args.most) c.loop-inbox.rooms.items room was.most c.in_ok-room_for.ensures.most);
      live = rw pushed.items (all_more (λ (r : Room). r.is_live ≡ c.args.is_live) c.loop-inbox.rooms.items room was.live c.in_ok-room_for.ensures.live);
    }

pub returns-clause-rooms : goal.returns-clause-rooms
returns-clause-rooms c =
    let was = c.loop-inbox.invariant in
    let long : length c.loop-inbox.rooms.items ≡ vec_len c.loop-inbox.rooms = search rules in
    pairs_of IsRoom c.args.jobs.now c.loop-inbox.rooms.items (omega (arith, long, was.left, c.in-None.ensures.steps.0)) (λ k job room at_job at_room. was.each k room at_room job at_job)
