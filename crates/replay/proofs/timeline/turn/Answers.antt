use Rattle.std.proofs.Common.{sym, subst}
use Rattle.circular_buffer.specs.Buffer.{Buffer}
use Rattle.replay.specs.declared.checkpoints.Stop.{Stop}
use Rattle.replay.specs.Standings.{IsAmong, AreAmong}
use Rattle.replay.proofs.Stops.{others_stay, kept_more}
use Rattle.replay.proofs.timeline.turn.Goals as goal

pub returns-in_default-clause-stops : goal.returns-in_default-clause-stops
returns-in_default-clause-stops c whole are out = (
  subst (λ (b : Buffer Stop). AreAmong whole b.items) (sym c.pop_front.ensures.items) (others_stay (IsAmong whole) c.args.recent.now.items are),
  out,
)

pub returns-then-stop-place-clause-stops : goal.returns-then-stop-place-clause-stops
returns-then-stop-place-clause-stops c whole are out = (
  subst (λ (b : Buffer Stop). AreAmong whole b.items) (sym c.pop_front.ensures.items) (others_stay (IsAmong whole) c.args.recent.now.items are),
  are 0 c.in-Some.stop (sym c.in-Some.ensures.value),
)

pub returns-clause-stops : goal.returns-clause-stops
returns-clause-stops c whole are out = (
  subst (λ (b : Buffer Stop). AreAmong whole b.items) (sym c.push_back.ensures.items)
      (kept_more (IsAmong whole) c.pop_front.new.self.items c.in-Some.stop c.pop_front.new.self.capacity
      (subst (λ (b : Buffer Stop). AreAmong whole b.items) (sym c.pop_front.ensures.items) (others_stay (IsAmong whole) c.args.recent.now.items are))
      (are 0 c.in-Some.stop (sym c.in-Some.ensures.value))),
  out,
)
