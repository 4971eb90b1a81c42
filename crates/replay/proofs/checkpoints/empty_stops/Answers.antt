use Rattle.std.proofs.Common.{◌*◌, List, [], sym, refl, subst, arith}
use Rattle.replay.specs.declared.checkpoints.Stop.{Stop}
use Rattle.replay.specs.Standings.{AreCheckpoints}
use Rattle.replay.proofs.Keeping.{none_kept}
use Rattle.replay.proofs.Stops.{checkpoints_more}
use Rattle.replay.proofs.checkpoints.empty_stops.Goals as goal

pub loop-k-preserved : goal.loop-k-preserved
loop-k-preserved c = record {
  stops = subst (λ (xs : List Stop). AreCheckpoints [] c.args.channels.now xs) (sym c.in_ok-push.ensures.items)
      (checkpoints_more [] c.args.channels.now c.loop-k.stops.items (record { place = 64 * c.loop-k.k; states = c.in_ok-states.states }) c.loop-k.k c.loop-k.invariant.stops c.loop-k.invariant.counted refl
      (none_kept c.args.channels.now (64 * c.loop-k.k) c.in_ok-states.states.items c.in_ok-states.ensures.items));
  counted = omega (arith, c.loop-k.invariant.counted, c.in_ok-push.ensures.len);
}
