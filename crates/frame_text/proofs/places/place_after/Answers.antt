use Rattle.frame_text.proofs.Positions.{place_at_end}
use Rattle.frame_text.proofs.places.place_after.Goals as goal

pub returns : goal.returns
returns c = place_at_end c.args.before.now c.loop-b.b-index c.loop-b.line c.loop-b.column c.loop-b-test.false c.loop-b.invariant.line c.loop-b.invariant.column
