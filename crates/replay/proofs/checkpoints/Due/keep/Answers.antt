use Rattle.std.proofs.Common.{◌≡◌, Some, length, ◌∙◌, refl, arith}
use Rattle.std.specs.List.{slice_get}
use Rattle.std.proofs.lemmas.List.{length-set}
use Rattle.std.proofs.lemmas.Option.{slice_get_read}
use Rattle.replay.proofs.Keeping.{kept_on}
use Rattle.replay.proofs.checkpoints.Due.keep.Goals as goal

pub each-init : goal.each-init
each-init c = record { due = c.requires.due; count = refl; kept = λ before p own behind are. are }

pub returns-then-self-standing-clause-due : goal.returns-then-self-standing-clause-due
returns-then-self-standing-clause-due c = record {
  channel_is = c.each.invariant.due.channel_is;
  counted = c.each.invariant.due.counted;
  from = λ less. omega (arith, c.each.invariant.due.from less, c.if-self-standing.true);
}

pub advance-requires-clause-within : goal.advance-requires-clause-within
advance-requires-clause-within c = omega (arith, c.requires.spaced.within, c.each.invariant.count, c.each-test.true)

pub each-preserved : goal.each-preserved
each-preserved c =
    let there : slice_get c.each.stops.items c.each.self.stop ≡ Some c.index_mut-stop.result.now =
    slice_get_read c.each.stops.items (length c.each.stops.items) c.each.self.stop c.index_mut-stop.result.now refl (omega (arith, c.each-test.true)) c.index_mut-stop.ensures.value in
    record {
      due = record {
        channel_is = c.advance.ensures.channel ∙ c.each.invariant.due.channel_is;
        counted = c.advance.ensures.counted;
        from = λ less. omega (arith, c.if-self-standing.false, c.advance.ensures.order);
      };
      count = length-set c.each.stops.items c.each.self.stop c.keep.new.self ∙ c.each.invariant.count;
      kept =
          kept_on c.args.self.now.channel c.args.channels.now c.args.standing.now c.args.self.now.stop c.args.stops.now.items c.each.stops.items c.each.self c.advance.new.self c.index_mut-stop.result.now c.keep.new.self
          c.in_ok-kept.kept c.each.invariant.kept c.each.invariant.due c.if-self-standing.false there c.keep.ensures.place c.in_ok-keep.ensures.states c.in_ok-kept.ensures c.advance.ensures.stop;
    }

pub each-smaller : goal.each-smaller
each-smaller c = omega (arith, length-set c.each.stops.items c.each.self.stop c.keep.new.self, c.each-test.true, c.advance.ensures.stop)

pub returns-clause-due : goal.returns-clause-due
returns-clause-due c = record {
  channel_is = c.each.invariant.due.channel_is;
  counted = c.each.invariant.due.counted;
  from = λ less. absurd (omega (arith, c.each-test.false, less));
}
