use Rattle.std.proofs.Common.{◌≡◌, ◌<◌, ◌+◌, Bool, false, true≢false, length, refl, sym, ap, ◌∙◌, subst, arith}
use Rattle.mil_trunk.specs.Tags.{has, bound_of}
use Rattle.mil_trunk.specs.Ends.{tags_of, bounds_of}
use Rattle.bc_machine.specs.Running.{HasEnded}
use Rattle.std.specs.Prelude.{Some, slice_get, cond, ◌*◌}
use Rattle.bench_mail.specs.Mail.{IsInboxOf}
use Rattle.job_file.specs.Beside.{as_played}
use Rattle.job_file.specs.Rooms.{most_items}
use Rattle.job_file.specs.Resolving.{turns_left}
use Rattle.job_file.specs.Timed.{Standing}
use Rattle.job_file.proofs.Fewness.{few}
use Rattle.bench_run.specs.Beside.{records_told}
use Rattle.bench_run.specs.Runs.{records_of}
use Rattle.bench_run.specs.Threads.{RecordsOfferedSoFar}
use Rattle.bench_run.proofs.Turning.{may_plan_arrived, same_number, told_number, told_small, goes_on_beside, offered_before, told_record, fewer_turns, starts_beside, as_now, ends_beside, both_so}
use Rattle.bench_settings.specs.Placing.{placed_up_to}
use Rattle.bench_run.proofs.Courses.{sent_all}
use Rattle.bench_run.proofs.Messages.{few_beside}
use Rattle.bench_run.proofs.Stages.{first_stage, few_sent, by_given}
use Rattle.bench_run.proofs.beside.as_it_comes.Goals as goal

pub turns-init : goal.turns-init
turns-init g c =
    let job = c.args.way.now.job.now in
    let fits = c.requires.fits in
    record {
      stage = record {
        goes_on = starts_beside c.args.way.now.is_live c.args.posts.left c.args.posts.inbox job c.args.run c.args.posts fits.course refl refl;
        so_far = first_stage c.args.context.now.trunk.now (tags_of c.args.ticket) (bounds_of c.args.ticket) c.args.way.now.index (as_played job c.args.run.machine) c.args.run.machine.point.number c.args.ticket c.args.refused.items
            (ap (λ (v : Standing). v.machine.point.number) fits.course.beginning) fits.empty c.requires.ours refl refl c.requires.unsent;
      };
      inbox = c.requires.inbox;
      ordered = fits.fit;
      ended = λ no. absurd (true≢false (sym no));
      done = λ no. absurd (true≢false (sym no));
      room = refl;
    }

pub step_on-requires-clause-planned : goal.step_on-requires-clause-planned
step_on-requires-clause-planned g c =
    may_plan_arrived c.arrive-stands.result c.turns.run c.arrive-stands.new.run c.turns.posts c.arrive-stands.new.posts c.arrive-stands.ensures.arrives c.turns.invariant.stage.goes_on.planned

-- ---- where memory is refused

pub finish-requires-clause-ticket : goal.finish-requires-clause-ticket
finish-requires-clause-ticket g c κs within = c.turns.invariant.stage.so_far.ours

pub finish-requires-clause-tag : goal.finish-requires-clause-tag
finish-requires-clause-tag g c κs within = ap (λ tags. has tags c.args.way.now.index) c.turns.invariant.stage.so_far.tags ∙ c.requires.tag

pub finish-requires-clause-bound : goal.finish-requires-clause-bound
finish-requires-clause-bound g c κs within =
    let job = c.args.way.now.job.now in
    let st = c.turns.invariant.stage.so_far in
    let go = c.turns.invariant.stage.goes_on in
    let made = few_beside c.args.posts.left c.args.posts.inbox job c.turns.run.machine.point.number go.posts c.turns.posts c.turns.run.machine go.taken go.code go.kept.under_way (omega (arith, go.few)) in
    let bound : bound_of (bounds_of c.turns.ticket) c.args.way.now.index ≡ most_items c.args.posts.left job = ap (λ l. bound_of l c.args.way.now.index) st.bounds ∙ c.requires.bound in
    let fewer = few_sent c.args.context.now.trunk.now (tags_of c.args.ticket) (bounds_of c.args.ticket) c.args.way.now.index (as_played job c.turns.run.machine) c.turns.run.machine.point.number c.turns.ticket c.turns.refused.items st in
    omega (arith, made, bound, fewer)

-- ---- a turn

pub offer_sent-requires-clause-so_far : goal.offer_sent-requires-clause-so_far
offer_sent-requires-clause-so_far g c κs within =
    let job = c.args.way.now.job.now in
    let r = c.turns.run in
    let a = c.arrive-stands.new.run in
    let n = c.step_on.new.run in
    let stage = c.turns.invariant.stage in
    let go = stage.goes_on in
    let arrives = c.arrive-stands.ensures.arrives in
    let number = c.number-made.ensures.value ∙ same_number c.arrive-stands.result r a c.turns.posts c.arrive-stands.new.posts arrives in (
      as_played job n.machine,
      as_now c.args.context.now.trunk.now (tags_of c.args.ticket) (bounds_of c.args.ticket) c.args.way.now.index (as_played job n.machine) r.machine.point.number c.number-made.result c.turns.ticket c.turns.refused.items (sym number)
          (offered_before c.arrive-stands.result r a c.turns.posts c.arrive-stands.new.posts arrives c.in-Ok.answer n c.in-Ok.ensures c.job_runs.ensures.so_far c.job_runs.ensures.counts job c.program-sound.ensures.sound go.code go.begun go.kept.under_way
          c.args.context.now.trunk.now (tags_of c.args.ticket) (bounds_of c.args.ticket) c.args.way.now.index c.turns.ticket c.turns.refused.items stage.so_far),
    )

pub offer_sent-requires-clause-tag : goal.offer_sent-requires-clause-tag
offer_sent-requires-clause-tag g c κs within = ap (λ tags. has tags c.args.way.now.index) c.turns.invariant.stage.so_far.tags ∙ c.requires.tag

pub offer_sent-requires-clause-bound : goal.offer_sent-requires-clause-bound
offer_sent-requires-clause-bound g c κs within =
    let job = c.args.way.now.job.now in
    let r = c.turns.run in
    let a = c.arrive-stands.new.run in
    let n = c.step_on.new.run in
    let arrives = c.arrive-stands.ensures.arrives in
    let q = c.arrive-stands.new.posts in
    let on = goes_on_beside c.arrive-stands.result r a c.turns.posts q arrives c.in-Ok.answer n c.in-Ok.ensures c.next_message_is_sent.ensures c.args.posts.left c.args.posts.inbox job c.turns.invariant.stage.goes_on (few n.machine c.in-Ok.ensures.kept.under_way) in
    let made = few_beside c.args.posts.left c.args.posts.inbox job n.machine.point.number on.posts q n.machine on.taken on.code on.kept.under_way (omega (arith, on.few)) in
    let told = told_number c.arrive-stands.result r a c.turns.posts q arrives c.in-Ok.answer n c.in-Ok.ensures in
    let number = c.number-made.ensures.value ∙ same_number c.arrive-stands.result r a c.turns.posts q arrives in
    let bound : bound_of (bounds_of c.turns.ticket) c.args.way.now.index ≡ most_items c.args.posts.left job = ap (λ l. bound_of l c.args.way.now.index) c.turns.invariant.stage.so_far.bounds ∙ c.requires.bound in
    omega (arith, made, bound, told, number)

pub offer_sent-requires-clause-room : goal.offer_sent-requires-clause-room
offer_sent-requires-clause-room g c κs within =
    let job = c.args.way.now.job.now in
    let r = c.turns.run in
    let a = c.arrive-stands.new.run in
    let n = c.step_on.new.run in
    let arrives = c.arrive-stands.ensures.arrives in
    let q = c.arrive-stands.new.posts in
    let on = goes_on_beside c.arrive-stands.result r a c.turns.posts q arrives c.in-Ok.answer n c.in-Ok.ensures c.next_message_is_sent.ensures c.args.posts.left c.args.posts.inbox job c.turns.invariant.stage.goes_on (few n.machine c.in-Ok.ensures.kept.under_way) in
    let made = few_beside c.args.posts.left c.args.posts.inbox job n.machine.point.number on.posts q n.machine on.taken on.code on.kept.under_way (omega (arith, on.few)) in
    let told = told_number c.arrive-stands.result r a c.turns.posts q arrives c.in-Ok.answer n c.in-Ok.ensures in
    let number = c.number-made.ensures.value ∙ same_number c.arrive-stands.result r a c.turns.posts q arrives in
    omega (arith, made, told, number, c.requires.fits.capacity, c.turns.invariant.room)

pub offer_sent-requires-clause-small : goal.offer_sent-requires-clause-small
offer_sent-requires-clause-small g c κs within =
    told_small c.arrive-stands.result c.turns.run c.arrive-stands.new.run c.turns.posts c.arrive-stands.new.posts c.arrive-stands.ensures.arrives c.in-Ok.answer c.step_on.new.run c.in-Ok.ensures

pub turns-preserved : goal.turns-preserved
turns-preserved g c =
    let trunk = c.args.context.now.trunk.now in
    let own = tags_of c.args.ticket in
    let limits = bounds_of c.args.ticket in
    let index = c.args.way.now.index in
    let job = c.args.way.now.job.now in
    let r = c.turns.run in
    let a = c.arrive-stands.new.run in
    let n = c.step_on.new.run in
    let stage = c.turns.invariant.stage in
    let go = stage.goes_on in
    let arrives = c.arrive-stands.ensures.arrives in
    let p = c.turns.posts in
    let q = c.arrive-stands.new.posts in
    let steps = c.in-Ok.ensures in
    let live = as_played job n.machine in
    let number = c.number-made.ensures.value ∙ same_number c.arrive-stands.result r a p q arrives in
    let told = told_number c.arrive-stands.result r a p q arrives c.in-Ok.answer n steps in
    let before = offered_before c.arrive-stands.result r a p q arrives c.in-Ok.answer n steps c.job_runs.ensures.so_far c.job_runs.ensures.counts job c.program-sound.ensures.sound go.code go.begun go.kept.under_way trunk own limits index c.turns.ticket c.turns.refused.items stage.so_far in
    let now = as_now trunk own limits index live r.machine.point.number c.number-made.result c.turns.ticket c.turns.refused.items (sym number) before in
    let offered = c.offer_sent.ensures.so_far live now
    (λ w is. subst (λ k. slice_get (records_of live) k ≡ Some w) (sym number)
    (told_record c.arrive-stands.result r a p q arrives c.in-Ok.answer n steps c.job_runs.ensures.so_far c.job_runs.ensures.counts job c.program-sound.ensures.sound go.code go.begun go.kept.under_way w is)) in
    let there : c.number-made.result + length (records_told c.in-Ok.answer) ≡ n.machine.point.number = omega (arith, number, told) in
    record {
      stage = record {
        goes_on = goes_on_beside c.arrive-stands.result r a p q arrives c.in-Ok.answer n steps c.next_message_is_sent.ensures c.args.posts.left c.args.posts.inbox job go (few n.machine steps.kept.under_way);
        so_far = by_given trunk own limits index live n.machine.point.number c.turns.ticket c.offer_sent.new.ticket c.offer_sent.new.refused.items before.tags before.bounds
            (subst (λ k. RecordsOfferedSoFar trunk (tags_of c.turns.ticket) (bounds_of c.turns.ticket) index live k c.offer_sent.new.ticket c.offer_sent.new.refused.items) there offered);
      };
      inbox = c.arrive-stands.ensures.inbox;
      ordered = c.arrive-stands.ensures.ordered;
      ended = λ yes. steps.ended (c.is_halted-ended.ensures.yes yes);
      done = λ yes. both_so c.is_halted-ended.result c.arrive-stands.result (sym c.both_of-done.ensures ∙ yes);
      room = c.offer_sent.ensures.room ∙ c.turns.invariant.room;
    }

pub turns-smaller : goal.turns-smaller
turns-smaller g c =
    let less = fewer_turns c.arrive-stands.result c.turns.run c.arrive-stands.new.run c.turns.posts c.arrive-stands.new.posts c.arrive-stands.ensures.arrives c.in-Ok.answer c.step_on.new.run c.in-Ok.ensures
    c.turns.ended c.is_halted-ended.result c.is_halted-ended.ensures.yes c.is_halted-ended.ensures.no c.arrive-stands.ensures.stands in
    subst (λ (z : Bool × Bool). turns_left c.step_on.new.run.machine * 2 + cond c.is_halted-ended.result 0 1 + cond z.0 0 1 < turns_left c.turns.run.machine * 2 + cond c.turns.ended 0 1 + cond z.1 0 1)
    (λ i. (sym c.both_of-done.ensures i, sym c.turns-test.true i)) less

-- ---- the end

pub finish-requires-2-clause-bound : goal.finish-requires-2-clause-bound
finish-requires-2-clause-bound g c κs within =
    let job = c.args.way.now.job.now in
    let st = c.turns.invariant.stage.so_far in
    let go = c.turns.invariant.stage.goes_on in
    let made = few_beside c.args.posts.left c.args.posts.inbox job c.turns.run.machine.point.number go.posts c.turns.posts c.turns.run.machine go.taken go.code go.kept.under_way (omega (arith, go.few)) in
    let bound : bound_of (bounds_of c.turns.ticket) c.args.way.now.index ≡ most_items c.args.posts.left job = ap (λ l. bound_of l c.args.way.now.index) st.bounds ∙ c.requires.bound in
    let fewer = few_sent c.args.context.now.trunk.now (tags_of c.args.ticket) (bounds_of c.args.ticket) c.args.way.now.index (as_played job c.turns.run.machine) c.turns.run.machine.point.number c.turns.ticket c.turns.refused.items st in
    omega (arith, made, bound, fewer)

pub returns : goal.returns
returns g c =
    let job = c.args.way.now.job.now in
    let i = c.turns.invariant in
    let end = c.finish-2.ensures in
    let out = c.outcome_of.ensures in
    let ended : HasEnded c.turns.run.machine = i.ended (i.done c.turns-test.false) in
    ends_beside c.args.context.now.trunk.now c.args.ticket c.args.way.now.index c.args.way.now.is_live job c.args.way.now.mailbox.now c.args.posts.left c.args.posts.inbox c.turns.run c.turns.ticket c.turns.refused.items c.turns.posts c.finish-2.result
    i.stage ended c.job_runs.ensures.whole c.job_runs.ensures.counts c.program-sound.ensures.sound c.requires.fits.course.live c.requires.fits.course.timed i.inbox
    end.ticket end.tags end.bounds end.sent end.channel.0 end.channel.1 (end.made ∙ out.made.0) (end.refused ∙ ap (λ v. v.items) out.refused)
    (λ yes. end.placed c.turns.run.machine.placed (out.whole (sym end.is_whole ∙ yes)) ∙ ap (λ n. placed_up_to n c.turns.run.machine.placed) out.made.0)
    (end.inbox ∙ out.inbox)

pub returns-in_default : goal.returns-in_default
returns-in_default g c =
    let job = c.args.way.now.job.now in
    let i = c.turns.invariant in
    let r = c.turns.run in
    let end = c.finish.ensures in
    let cut = c.cut_off.ensures in
    let never : c.finish.result.is_whole ≡ false = end.is_whole ∙ cut.is_whole in
    record {
      ended = sent_all c.args.context.now.trunk.now c.args.ticket c.args.way.now.index c.args.way.now.mailbox.now (as_played job r.machine) r.machine.point.number c.turns.ticket c.turns.refused.items c.finish.result
          i.stage.so_far end.ticket end.tags end.bounds end.sent (subst (IsInboxOf c.args.way.now.mailbox.now) (sym (end.inbox ∙ cut.inbox)) c.arrive-stands.ensures.inbox);
      whole = λ yes. absurd (true≢false (sym yes ∙ never));
    }
