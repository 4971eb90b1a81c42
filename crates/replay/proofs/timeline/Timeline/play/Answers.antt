use Rattle.std.proofs.Common.{List, ap, sym, subst, arith}
use Rattle.replay.specs.declared.checkpoints.Stop.{Stop}
use Rattle.replay.specs.Standings.{AreAt, AreOf, IsNearest}
use Rattle.replay.proofs.Standing.{of_jobs}
use Rattle.replay.proofs.Stops.{apart, starts_there, starts_nearest}
use Rattle.replay.proofs.timeline.Timeline.play.Goals.{else-place-from-via-then-place-from+else-from-to, else-place-from-via-else-place-from}
use Rattle.replay.proofs.timeline.Timeline.play.Goals as goal

pub returns-then-from-to-clause-start : goal.returns-then-from-to-clause-start
returns-then-from-to-clause-start c =
    let self = c.args.self.now in
    let near : IsNearest self.checkpoints.items self.recent.items c.args.to c.nearest-stop.result.now =
    subst (λ (xs : List Stop). IsNearest xs self.recent.items c.args.to c.nearest-stop.result.now) c.deref.ensures.value c.nearest-stop.ensures in
    starts_there self.checkpoints.items self.recent.items c.args.from c.args.to c.nearest-stop.result.now near c.if-place-from.true c.if-from-to.true

pub returns-clause-arrived : goal.returns-clause-arrived
returns-clause-arrived c =
    let self = c.args.self.now in
    let is = c.requires.stands in
    record {
      room = is.room;
      live = subst (AreAt self.tracks.items self.channels.items c.args.to) (sym (ap (λ v. v.items) c.swap.ensures.x_after))
          (rw (← c.deref-4.ensures.value, ← c.deref-5.ensures.value) c.play_all.ensures);
      next = subst (AreOf self.tracks.items) (sym (ap (λ v. v.items) c.swap.ensures.y_after)) (of_jobs self.tracks.items self.channels.items c.args.from self.live.items is.live);
      next_at = subst (AreAt self.tracks.items self.channels.items c.args.from) (sym (ap (λ v. v.items) c.swap.ensures.y_after)) is.live;
      checkpoints = is.checkpoints;
      enough = is.enough;
      recent = is.recent;
      capacity = is.capacity;
    }

pub returns-clause-start : goal.returns-clause-start
returns-clause-start c =
    let self = c.args.self.now in
    let near : IsNearest self.checkpoints.items self.recent.items c.args.to c.nearest-stop.result.now =
    subst (λ (xs : List Stop). IsNearest xs self.recent.items c.args.to c.nearest-stop.result.now) c.deref.ensures.value c.nearest-stop.ensures in
    starts_nearest self.checkpoints.items self.recent.items c.args.from c.args.to c.nearest-stop.result.now (apart self.tracks.items self.channels.items self.checkpoints.items c.requires.stands.checkpoints) near
    (λ le.
    elim c.else-place-from.branch [
      | else-place-from-via-then-place-from+else-from-to w ↦ absurd (omega (arith, w.if-from-to.false, le))
      | else-place-from-via-else-place-from w ↦ omega (arith, w.if-place-from.false)
    ])
