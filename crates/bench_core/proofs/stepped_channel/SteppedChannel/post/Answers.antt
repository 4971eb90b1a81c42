use Rattle.std.proofs.Common.{ℕ, ◌++◌, ◌∷◌, [], length, sym, ap, ◌∙◌, subst, arith}
use Rattle.bc_machine.specs.declared.placed.Placed.{Placed}
use Rattle.bench_report.specs.Reports.{Rises, IsForPlace}
use Rattle.bench_settings.specs.Placing.{placed_up_to}
use Rattle.bench_core.proofs.Posting.{placed_next, moved_next, posted_of, posted_recorded, posted_number, posted_placed, posted_count}
use Rattle.bench_core.proofs.stepped_channel.SteppedChannel.post.Goals as goal

pub add_posted-requires-clause-host : goal.add_posted-requires-clause-host
add_posted-requires-clause-host c = subst IsForPlace (sym c.copy.ensures) (c.is_for_place.ensures.0 c.if-not-is_for_place.false)

pub invariant_of-self-in-Ok : goal.invariant_of-self-in-Ok
invariant_of-self-in-Ok c =
    let l = c.self.inside in
    let m = l.machine in
    let n = c.place.new.self in
    let action = c.args.action.now in
    let is = moved_next m c.room-2.new.self n c.copy-2.result action c.in_ok-room-2.ensures.made c.copy-2.ensures c.in-Ok.ensures.placed in
    let one = placed_next m c.room-2.new.self c.number.result c.copy.result action c.in_ok-room-2.ensures.made c.number.ensures.value c.copy.ensures in
    record {
      controller = posted_of l.job.value m n action is c.in-Ok.ensures.under_way c.self.invariant.controller;
      sound = c.self.invariant.sound;
      channel = c.self.invariant.channel;
      addresses = c.self.invariant.addresses;
      refused = subst (λ (k : ℕ). Rises 0 k l.refused.items) (sym (posted_number l.job.value m n action is)) c.self.invariant.refused;
      placed = c.add_posted.ensures.ordered m.placed (c.room.ensures.actions ∙ c.self.invariant.placed)
          ∙ ap (λ (p : Placed). placed_up_to 1000000 (m.placed ++ p ∷ [])) one
          ∙ ap (placed_up_to 1000000) (sym (posted_placed l.job.value m n action is));
      ordered = c.add_posted.ensures.fit;
      posts = posted_count l.job.value m n action is (length l.job.value.actions) l.posts c.self.invariant.posts;
      recorded = posted_recorded l.job.value m n action is c.self.invariant.recorded;
    }

pub returns-in-Ok-clause-made : goal.returns-in-Ok-clause-made
returns-in-Ok-clause-made c =
    let l = c.self.inside in
    let m = l.machine in
    let n = c.place.new.self in
    let is = moved_next m c.room-2.new.self n c.copy-2.result c.args.action.now c.in_ok-room-2.ensures.made c.copy-2.ensures c.in-Ok.ensures.placed in
    let same = ap (λ x. x.point.number) c.in_ok-room-2.ensures.made in
    record {
      recorded = posted_recorded l.job.value m n c.args.action.now is c.self.invariant.recorded;
      few = omega (arith, posted_number l.job.value m n c.args.action.now is, same, c.number.ensures.value, c.number.ensures.range);
    }
