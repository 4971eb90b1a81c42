use Rattle.ch11_reader.proofs.Walks.{even_jump, odd_jump}
use Rattle.ch11_reader.proofs.jumps.Jumps.known.Goals as goal

pub returns-then-place-eq0 : goal.returns-then-place-eq0
returns-then-place-eq0 c = rw (c.jump_at.ensures, c.deref.ensures.value, ← c.self.view_is) (even_jump c.self.inside.file.now c.args.place c.self.inside.even.items c.if-place-eq0.true c.self.invariant.0)

pub returns-else-place-eq0 : goal.returns-else-place-eq0
returns-else-place-eq0 c = rw (c.jump_at-else-place-eq0.ensures, c.deref-else-place-eq0.ensures.value, ← c.self.view_is) (odd_jump c.self.inside.file.now c.args.place c.self.inside.odd.items c.if-place-eq0.false c.self.invariant.1)
