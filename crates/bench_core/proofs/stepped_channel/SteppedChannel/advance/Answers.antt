use Rattle.std.proofs.Common.{ap, ◌∙◌, sym, subst, ℕ, ◌+◌, List, length, arith}
use Rattle.bc_machine.specs.declared.placed.Placed.{Placed}
use Rattle.bench_report.specs.Reports.{Rises}
use Rattle.job_file.specs.Jobs.{job_in}
use Rattle.job_file.specs.Meaning.{records}
use Rattle.bench_settings.specs.Placing.{placed_up_to}
use Rattle.bench_core.specs.Bench.{ChannelState}
use Rattle.bench_core.specs.Channels.{channel_state_in, after_next, queued_next, next_in, IsMade}
use Rattle.bc_machine.proofs.Next.{few}
use Rattle.bench_core.proofs.Offers.{next_none, next_some, ended_stays, ended_gives, past_end, recorded_next, still_of, recorded_on, ended_channel, ended_item, message_channel, message_item, rises_message}
use Rattle.bench_core.proofs.stepped_channel.SteppedChannel.advance.Goals as goal

pub returns-then-self-clause-channel : goal.returns-then-self-clause-channel
returns-then-self-clause-channel c =
    sym c.self.view_is ∙ ended_stays (channel_state_in c.self.inside) c.args.room c.if-self.true ∙ ap (λ (k : ChannelState). after_next k (next_in k) c.args.room) c.self.view_is

pub returns-then-self-clause-item : goal.returns-then-self-clause-item
returns-then-self-clause-item c =
    ended_gives (channel_state_in c.self.inside) c.args.room c.if-self.true ∙ ap (λ (k : ChannelState). queued_next k (next_in k) c.args.room) c.self.view_is

pub returns-then-self-clause-made : goal.returns-then-self-clause-made
returns-then-self-clause-made c =
    subst IsMade c.self.view_is (record { recorded = c.self.invariant.recorded; few = few c.self.inside.machine c.self.invariant.controller.under_way })

pub invariant_of-self-in_default : goal.invariant_of-self-in_default
invariant_of-self-in_default c =
    let l = c.self.inside in
    let job = job_in l.job.value in
    let new = c.next_record-next.new.machine in
    let of = c.next_record-next.ensures.of_job job l.machine.placed c.self.invariant.controller in
    record {
      controller = still_of job l.machine new of;
      sound = c.self.invariant.sound;
      channel = c.self.invariant.channel;
      addresses = c.self.invariant.addresses;
      refused = subst (λ (k : ℕ). Rises 0 k c.reserve.new.self.items) (sym c.in_default.ensures.same) (subst (Rises 0 l.machine.point.number) (sym c.reserve.ensures.items) c.self.invariant.refused);
      placed = c.self.invariant.placed ∙ ap (placed_up_to 1000000) (sym of.actions);
      ordered = c.self.invariant.ordered;
      posts = ap (λ (ps : List Placed). length ps) of.actions ∙ c.self.invariant.posts;
      recorded = recorded_on job l.machine new l.machine.point.number of c.in_default.ensures.same c.self.invariant.recorded;
    }

pub returns-in_default-clause-channel : goal.returns-in_default-clause-channel
returns-in_default-clause-channel c =
    let l = c.self.inside in
    let job = job_in l.job.value in
    let of = c.next_record-next.ensures.of_job job l.machine.placed c.self.invariant.controller in
    let none = next_none (channel_state_in l) (past_end (records job l.machine.placed) l.machine.point.number (c.in_default.ensures.all job l.machine.placed c.self.invariant.sound c.self.invariant.controller)) in
    ended_channel (channel_state_in l) c.args.room _ _ _ _ none of.actions c.in_default.ensures.same c.reserve.ensures.items c.end_mark.ensures.ended
    ∙ ap (λ (k : ChannelState). after_next k (next_in k) c.args.room) c.self.view_is

pub returns-in_default-clause-item : goal.returns-in_default-clause-item
returns-in_default-clause-item c =
    let l = c.self.inside in
    let job = job_in l.job.value in
    let none = next_none (channel_state_in l) (past_end (records job l.machine.placed) l.machine.point.number (c.in_default.ensures.all job l.machine.placed c.self.invariant.sound c.self.invariant.controller)) in
    c.end_mark.ensures.item ∙ ended_item (channel_state_in l) c.args.room none
    ∙ ap (λ (k : ChannelState). queued_next k (next_in k) c.args.room) c.self.view_is

pub returns-in_default-clause-made : goal.returns-in_default-clause-made
returns-in_default-clause-made c =
    let l = c.self.inside in
    let job = job_in l.job.value in
    let of = c.next_record-next.ensures.of_job job l.machine.placed c.self.invariant.controller in
    record {
      recorded = recorded_on job l.machine c.next_record-next.new.machine l.machine.point.number of c.in_default.ensures.same c.self.invariant.recorded;
      few = omega (arith, c.number-number.ensures.value, c.number-number.ensures.range);
    }

pub invariant_of-self-2 : goal.invariant_of-self-2
invariant_of-self-2 c =
    let l = c.self.inside in
    let job = job_in l.job.value in
    let new = c.next_record-next.new.machine in
    let of = c.next_record-next.ensures.of_job job l.machine.placed c.self.invariant.controller in
    let rs = records job l.machine.placed in
    let at = c.in-Some.ensures.record job l.machine.placed c.self.invariant.sound c.self.invariant.controller in
    record {
      controller = still_of job l.machine new of;
      sound = c.self.invariant.sound;
      channel = c.self.invariant.channel;
      addresses = c.self.invariant.addresses;
      refused = rises_message c.args.room l.machine.point.number _ _ l.refused.items _ _ c.in-Some.ensures.number c.number-number.ensures.value c.reserve.ensures.items c.self.invariant.refused c.message.ensures.refused;
      placed = c.self.invariant.placed ∙ ap (placed_up_to 1000000) (sym of.actions);
      ordered = c.self.invariant.ordered;
      posts = ap (λ (ps : List Placed). length ps) of.actions ∙ c.self.invariant.posts;
      recorded = recorded_on job l.machine new (l.machine.point.number + 1) of c.in-Some.ensures.number
          (recorded_next rs l.machine.point.number c.in-Some.made at c.self.invariant.recorded (c.record_fits.ensures 0));
    }

pub returns-clause-channel : goal.returns-clause-channel
returns-clause-channel c =
    let l = c.self.inside in
    let job = job_in l.job.value in
    let of = c.next_record-next.ensures.of_job job l.machine.placed c.self.invariant.controller in
    let at = c.in-Some.ensures.record job l.machine.placed c.self.invariant.sound c.self.invariant.controller in
    let next = next_some (channel_state_in l) c.in-Some.made c.if-self.false at in
    message_channel (channel_state_in l) c.in-Some.made c.args.room _ _ _ _ _ next of.actions c.in-Some.ensures.number c.number-number.ensures.value c.reserve.ensures.items c.message.ensures.refused
    ∙ ap (λ (k : ChannelState). after_next k (next_in k) c.args.room) c.self.view_is

pub returns-clause-item : goal.returns-clause-item
returns-clause-item c =
    let l = c.self.inside in
    let at = c.in-Some.ensures.record (job_in l.job.value) l.machine.placed c.self.invariant.sound c.self.invariant.controller in
    let next = next_some (channel_state_in l) c.in-Some.made c.if-self.false at in
    c.message.ensures.item ∙ message_item (channel_state_in l) c.in-Some.made c.args.room _ next (c.number-number.ensures.value ∙ c.in-Some.ensures.number)
    ∙ ap (λ (k : ChannelState). queued_next k (next_in k) c.args.room) c.self.view_is

pub returns-clause-made : goal.returns-clause-made
returns-clause-made c =
    let l = c.self.inside in
    let job = job_in l.job.value in
    let new = c.next_record-next.new.machine in
    let of = c.next_record-next.ensures.of_job job l.machine.placed c.self.invariant.controller in
    let at = c.in-Some.ensures.record job l.machine.placed c.self.invariant.sound c.self.invariant.controller in
    record {
      recorded = recorded_on job l.machine new (l.machine.point.number + 1) of c.in-Some.ensures.number
          (recorded_next (records job l.machine.placed) l.machine.point.number c.in-Some.made at c.self.invariant.recorded (c.record_fits.ensures 0));
      few = omega (arith, c.number-number.ensures.value, c.number-number.ensures.range);
    }
