use Rattle.std.proofs.Common.{subst}
use Rattle.circular_buffer.specs.Buffer.{Buffer}
use Rattle.replay.specs.declared.checkpoints.Stop.{Stop}
use Rattle.replay.specs.Standings.{StopsGain}
use Rattle.replay.proofs.Stops.{gained, played_from, kept_behind}
use Rattle.replay.proofs.timeline.Timeline.travel.Goals as goal

pub returns-clause-arrived : goal.returns-clause-arrived
returns-clause-arrived c =
    let is = c.in_ok-start.ensures.arrived in
    record {
      room = is.room;
      live = is.live;
      next = is.next;
      next_at = is.next_at;
      checkpoints = is.checkpoints;
      enough = is.enough;
      recent = gained c.play.new.self.tracks.items c.play.new.self.channels.items c.play.new.self.recent.items c.note.new.recent.items c.in_ok-saved.saved c.note.ensures.stops is.recent
          (rw (c.play.ensures.tracks, c.play.ensures.channels) c.in_ok-saved.ensures.stop);
      capacity = c.note.ensures.capacity;
    }

pub returns-clause-played : goal.returns-clause-played
returns-clause-played c = played_from _ c.args.from c.args.to c.in_ok-start.start c.in_ok-start.ensures.start

pub returns-clause-kept : goal.returns-clause-kept
returns-clause-kept c =
    kept_behind c.args.from c.args.self.now.recent.items c.note.new.recent.items c.in_ok-saved.saved
    (subst (λ (b : Buffer Stop). StopsGain b.items c.in_ok-saved.saved c.note.new.recent.items) c.play.ensures.recent c.note.ensures.stops)
    c.note.ensures.kept c.in_ok-saved.ensures.place c.in_ok-saved.ensures.noted
