use Rattle.std.proofs.Common.{arith, ap, sym, ◌∙◌, ◌≡◌, ◌-◌, ◌++◌, [], length, subst, refl}
use Rattle.std.specs.Prelude.{Some, slice_get}
use Rattle.mil_trunk.specs.Tags.{has, bound_of}
use Rattle.mil_trunk.specs.Ends.{tags_of, bounds_of}
use Rattle.job_file.specs.Jobs.{job_in}
use Rattle.bench_report.specs.Reports.{Rises}
use Rattle.job_file.specs.Beside.{with_posts}
use Rattle.bench_run.specs.Runs.{records_of}
use Rattle.job_file.specs.Rooms.{most_items}
use Rattle.bench_run.specs.Threads.{RecordsOfferedSoFar}
use Rattle.bench_run.proofs.Courses.{sent_all, by_number_means}
use Rattle.bench_run.proofs.Stages.{first_stage, last_stage, few_sent, by_ticket, by_given}
use Rattle.bench_mail.specs.Mail.{IsInboxOf}
use Rattle.bench_run.proofs.Messages.{few_offered}
use Rattle.bench_run.proofs.PlacedPosts.{placed_all}
use Rattle.bench_run.proofs.PlacedStages.{stage_first, so_far_placed, stage_on}
use Rattle.bench_run.proofs.by_number.by_number.Goals as goal

pub messages-init : goal.messages-init
messages-init g c =
    let room = c.args in
    record {
      stage = stage_first c.args.context.now.trunk.now (tags_of c.args.ticket) (bounds_of c.args.ticket) c.args.way.now.index room.posts.left room.posts.inbox c.args.way.now.job.now room.machine c.args.ticket room.refused.items room.posts refl refl c.requires.fits.course.first c.requires.fits.course.machine c.requires.fits.course.ordered
          (first_stage c.args.context.now.trunk.now (tags_of c.args.ticket) (bounds_of c.args.ticket) c.args.way.now.index (with_posts c.args.way.now.job.now []) room.machine.point.number c.args.ticket room.refused.items c.requires.fits.course.first c.requires.fits.empty c.requires.ours refl refl c.requires.unsent);
      inbox = c.requires.inbox;
      ordered = c.requires.fits.fit;
      room = refl;
    }

pub offer_message-requires-clause-so_far : goal.offer_message-requires-clause-so_far
offer_message-requires-clause-so_far g c κs within =
    let job = c.args.way.now.job.now in
    let room = c.args in
    let posted = c.place_all.ensures.posted room.posts.left room.posts.inbox job c.messages.invariant.stage.posted in
    let st = so_far_placed c.args.context.now.trunk.now (tags_of c.args.ticket) (bounds_of c.args.ticket) c.args.way.now.index room.posts.left room.posts.inbox job c.messages.machine c.place_all.new.machine c.messages.ticket c.messages.refused.items c.messages.posts c.place_all.new.self
    (λ placed m of. c.job_runs.ensures.so_far (job_in job) placed m c.program-sound.ensures.sound of) c.place_all.ensures.point c.messages.invariant.stage posted in
    let is = c.number-number.ensures.value ∙ c.in-Some.ensures.number in (
      with_posts job posted.posts,
      by_ticket c.args.context.now.trunk.now (tags_of c.args.ticket) (bounds_of c.args.ticket) c.args.way.now.index (with_posts job posted.posts) c.place_all.new.machine.point.number c.number-number.result c.messages.ticket c.messages.refused.items is st,
    )

pub offer_message-requires-clause-tag : goal.offer_message-requires-clause-tag
offer_message-requires-clause-tag g c κs within = ap (λ tags. has tags c.args.way.now.index) c.messages.invariant.stage.so_far.tags ∙ c.requires.tag

pub offer_message-requires-clause-bound : goal.offer_message-requires-clause-bound
offer_message-requires-clause-bound g c κs within =
    let job = c.args.way.now.job.now in
    let room = c.args in
    let new = c.next_record.new.machine in
    let posted = c.place_all.ensures.posted room.posts.left room.posts.inbox job c.messages.invariant.stage.posted in
    let of = c.next_record.ensures.of_job (job_in job) (job.actions ++ posted.posts) posted.of in
    let few = few_offered room.posts.left room.posts.inbox job c.place_all.new.machine new c.place_all.new.self posted of in
    let bound : bound_of (bounds_of c.messages.ticket) c.args.way.now.index ≡ most_items room.posts.left job = ap (λ l. bound_of l c.args.way.now.index) c.messages.invariant.stage.so_far.bounds ∙ c.requires.bound in
    omega (arith, few, bound, c.number-number.ensures.value)

pub offer_message-requires-clause-room : goal.offer_message-requires-clause-room
offer_message-requires-clause-room g c κs within =
    let job = c.args.way.now.job.now in
    let room = c.args in
    let new = c.next_record.new.machine in
    let posted = c.place_all.ensures.posted room.posts.left room.posts.inbox job c.messages.invariant.stage.posted in
    let of = c.next_record.ensures.of_job (job_in job) (job.actions ++ posted.posts) posted.of in
    let few = few_offered room.posts.left room.posts.inbox job c.place_all.new.machine new c.place_all.new.self posted of in
    omega (arith, few, c.requires.fits.capacity, c.messages.invariant.room, c.number-number.ensures.value)

pub offer_message-requires-clause-recorded : goal.offer_message-requires-clause-recorded
offer_message-requires-clause-recorded g c κs within = c.record_fits.ensures 0

pub messages-preserved : goal.messages-preserved
messages-preserved g c =
    let job = c.args.way.now.job.now in
    let room = c.args in
    let n = c.place_all.new.machine.point.number in
    let posted = c.place_all.ensures.posted room.posts.left room.posts.inbox job c.messages.invariant.stage.posted in
    let st = so_far_placed c.args.context.now.trunk.now (tags_of c.args.ticket) (bounds_of c.args.ticket) c.args.way.now.index room.posts.left room.posts.inbox job c.messages.machine c.place_all.new.machine c.messages.ticket c.messages.refused.items c.messages.posts c.place_all.new.self
    (λ placed m of. c.job_runs.ensures.so_far (job_in job) placed m c.program-sound.ensures.sound of) c.place_all.ensures.point c.messages.invariant.stage posted in
    let live = with_posts job posted.posts in
    let of = c.next_record.ensures.of_job (job_in job) (job.actions ++ posted.posts) posted.of in
    let is = c.number-number.ensures.value ∙ c.in-Some.ensures.number in
    let before : n ≡ c.number-number.result - 1 = omega (arith, is) in
    let message : slice_get (records_of live) (c.number-number.result - 1) ≡ Some c.in-Some.record =
    subst (λ k. slice_get (records_of live) k ≡ Some c.in-Some.record) before (c.in-Some.ensures.record (job_in job) (job.actions ++ posted.posts) c.program-sound.ensures.sound posted.of) in
    let old = by_ticket c.args.context.now.trunk.now (tags_of c.args.ticket) (bounds_of c.args.ticket) c.args.way.now.index live n c.number-number.result c.messages.ticket c.messages.refused.items is st in
    let next = by_given c.args.context.now.trunk.now (tags_of c.args.ticket) (bounds_of c.args.ticket) c.args.way.now.index live c.number-number.result c.messages.ticket c.offer_message.new.ticket c.offer_message.new.refused.items st.tags st.bounds (c.offer_message.ensures.so_far live old message) in
    record {
      stage = stage_on c.args.context.now.trunk.now (tags_of c.args.ticket) (bounds_of c.args.ticket) c.args.way.now.index room.posts.left room.posts.inbox job c.place_all.new.machine c.next_record.new.machine c.offer_message.new.ticket c.offer_message.new.refused.items c.place_all.new.self
          posted (omega (arith, c.in-Some.ensures.number)) of
          (λ some low.
          let same = ap (λ z. z.number) c.place_all.ensures.point in
          let once = c.place_all.ensures.emptied (omega (arith, same, is, c.number-number.ensures.range)) some in
          let earlier = c.messages.invariant.stage.posted.taken.emptied (omega (arith, some, c.place_all.ensures.left)) (omega (arith, low, once)) in
          omega (arith, earlier, once, low, same, c.in-Some.ensures.number))
          (subst (λ k. RecordsOfferedSoFar c.args.context.now.trunk.now (tags_of c.args.ticket) (bounds_of c.args.ticket) c.args.way.now.index live k c.offer_message.new.ticket c.offer_message.new.refused.items) c.number-number.ensures.value next);
      inbox = c.place_all.ensures.inbox;
      ordered = c.place_all.ensures.ordered;
      room = c.offer_message.ensures.room ∙ c.messages.invariant.room;
    }

pub finish-requires-clause-ticket : goal.finish-requires-clause-ticket
finish-requires-clause-ticket g c κs within = c.messages.invariant.stage.so_far.ours

pub finish-requires-clause-tag : goal.finish-requires-clause-tag
finish-requires-clause-tag g c κs within = ap (λ tags. has tags c.args.way.now.index) c.messages.invariant.stage.so_far.tags ∙ c.requires.tag

pub finish-requires-clause-bound : goal.finish-requires-clause-bound
finish-requires-clause-bound g c κs within =
    let job = c.args.way.now.job.now in
    let n = c.messages.machine.point.number in
    let stage = c.messages.invariant.stage in
    let st = stage.so_far in
    let room = c.args in
    let made = few_offered room.posts.left room.posts.inbox job c.messages.machine c.messages.machine c.messages.posts stage.posted stage.posted.of in
    let bound : bound_of (bounds_of c.messages.ticket) c.args.way.now.index ≡ most_items room.posts.left job = ap (λ l. bound_of l c.args.way.now.index) st.bounds ∙ c.requires.bound in
    let few = few_sent c.args.context.now.trunk.now (tags_of c.args.ticket) (bounds_of c.args.ticket) c.args.way.now.index (with_posts job stage.posted.posts) n c.messages.ticket c.messages.refused.items st in
    omega (arith, made, bound, few)

pub finish-requires-clause-refused : goal.finish-requires-clause-refused
finish-requires-clause-refused g c κs within =
    let made : c.number-made.result ≡ c.messages.machine.point.number = c.number-made.ensures.value ∙ c.in_default.ensures.same ∙ ap (λ z. z.number) c.place_all.ensures.point in
    subst (λ n. Rises 0 n c.messages.refused.items) (sym made) c.messages.invariant.stage.so_far.rising

pub returns : goal.returns
returns g c =
    let job = c.args.way.now.job.now in
    let room = c.args in
    let m = c.place_all.new.machine in
    let n = m.point.number in
    let posted = c.place_all.ensures.posted room.posts.left room.posts.inbox job c.messages.invariant.stage.posted in
    let st = so_far_placed c.args.context.now.trunk.now (tags_of c.args.ticket) (bounds_of c.args.ticket) c.args.way.now.index room.posts.left room.posts.inbox job c.messages.machine m c.messages.ticket c.messages.refused.items c.messages.posts c.place_all.new.self
    (λ placed m of. c.job_runs.ensures.so_far (job_in job) placed m c.program-sound.ensures.sound of) c.place_all.ensures.point c.messages.invariant.stage posted in
    let live = with_posts job posted.posts in
    let whole : n ≡ length (records_of live) = c.in_default.ensures.all (job_in job) (job.actions ++ posted.posts) c.program-sound.ensures.sound posted.of in
    let made : c.number-made.result ≡ n = c.number-made.ensures.value ∙ c.in_default.ensures.same in
    let few = few_offered room.posts.left room.posts.inbox job m m c.place_all.new.self posted posted.of in
    let end = c.finish.ensures in
    let so_far = subst (λ k. RecordsOfferedSoFar c.args.context.now.trunk.now (tags_of c.args.ticket) (bounds_of c.args.ticket) c.args.way.now.index live k c.messages.ticket c.messages.refused.items) (sym made) st in
    record {
      ended = sent_all c.args.context.now.trunk.now c.args.ticket c.args.way.now.index c.args.way.now.mailbox.now live c.number-made.result c.messages.ticket c.messages.refused.items c.finish.result
          so_far end.ticket end.tags end.bounds end.sent (subst (IsInboxOf c.args.way.now.mailbox.now) (sym end.inbox) c.place_all.ensures.inbox);
      whole = λ _. record {
        posts = posted.posts;
        live = live;
        means = by_number_means c.args.way.now.is_live room.posts.left job posted.posts c.requires.fits.course.plain;
        few = omega (arith, few, whole);
        placed = placed_all room.posts.left room.posts.inbox job c.finish.result.part.made m c.place_all.new.self c.finish.result.inbox posted (sym made ∙ sym end.made) end.inbox;
        offered = last_stage c.args.context.now.trunk.now c.args.ticket c.args.way.now.index live c.number-made.result c.messages.ticket c.finish.result.ticket c.messages.refused.items c.finish.result.part
            so_far (made ∙ whole) end.ticket end.tags end.bounds end.sent
            end.channel.0 end.made end.refused (end.placed live.actions (c.of.ensures ∙ posted.ordered))
            (omega (arith, end.channel.0, end.channel.1)) (omega (arith, c.number-made.ensures.range));
      };
    }
