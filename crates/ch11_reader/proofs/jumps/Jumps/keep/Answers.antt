use Rattle.std.proofs.Common.{arith}
use Rattle.ch11_reader.proofs.Walks.{even_kept, odd_kept}
use Rattle.ch11_reader.proofs.jumps.Jumps.keep.Goals as goal

pub invariant_of-self : goal.invariant_of-self
invariant_of-self c = (
  even_kept c.self.inside.file.now c.args.place c.self.inside.even.items c.args.jump c.if-place-eq0.true (omega (arith, c.if-i-len.true, c.len.ensures)) (rw c.self.view_is c.requires) c.self.invariant.0,
  c.self.invariant.1,
)

pub invariant_of-self-then-i-len-2 : goal.invariant_of-self-then-i-len-2
invariant_of-self-then-i-len-2 c = (
  c.self.invariant.0,
  odd_kept c.self.inside.file.now c.args.place c.self.inside.odd.items c.args.jump c.if-place-eq0.false (omega (arith, c.if-i-len-2.true, c.len-else-place-eq0.ensures)) (rw c.self.view_is c.requires) c.self.invariant.1,
)
