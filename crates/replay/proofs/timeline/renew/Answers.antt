use Rattle.replay.proofs.timeline.renew.Goals as goal

pub loop-turn-init : goal.loop-turn-init
loop-turn-init c = record {
  stops = (λ k stop at. (k, at), tt);
  capacity = c.requires;
  place = tt;
}

pub loop-turn-preserved : goal.loop-turn-preserved
loop-turn-preserved c = record {
  stops = c.turn-found.ensures.stops c.args.recent.now.items c.loop-turn.invariant.stops.0 c.loop-turn.invariant.stops.1;
  capacity = c.turn-found.ensures.capacity;
  place = c.turn-found.ensures.place c.loop-turn.invariant.place;
}
