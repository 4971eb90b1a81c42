use Rattle.std.proofs.Common.{sym}
use Rattle.replay.proofs.timeline.is_among.Goals as goal

pub returns-then-stop-place : goal.returns-then-stop-place
returns-then-stop-place c said = record { at = c.loop-i.i; stop = c.in-Some.stop.now; there = sym c.in-Some.ensures; place_is = c.if-stop-place.true }
