use Rattle.std.proofs.Common.{sym, ap, subst}
use Rattle.circular_buffer.specs.Buffer.{Buffer}
use Rattle.replay.specs.declared.checkpoints.Stop.{Stop}
use Rattle.replay.specs.Standings.{AreStops}
use Rattle.replay.proofs.Standing.{of_jobs}
use Rattle.replay.proofs.timeline.Timeline.open.Goals as goal

pub returns-clause-stands : goal.returns-clause-stands
returns-clause-stands c = record {
  room = c.requires.room;
  live = c.requires.live;
  next = of_jobs c.args.tracks.items c.args.channels.items 0 c.args.next.items c.requires.next;
  next_at = c.requires.next;
  checkpoints = c.requires.checkpoints;
  enough = c.requires.enough;
  recent = subst (λ (b : Buffer Stop). AreStops c.args.tracks.items c.args.channels.items b.items) (sym c.in_ok-recent.ensures) (λ k stop at. absurd cc);
  capacity = ap (λ (b : Buffer Stop). b.capacity) c.in_ok-recent.ensures;
}

pub returns-clause-recent : goal.returns-clause-recent
returns-clause-recent c = ap (λ (b : Buffer Stop). b.items) c.in_ok-recent.ensures
