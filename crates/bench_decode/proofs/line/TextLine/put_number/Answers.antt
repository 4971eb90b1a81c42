use Rattle.std.proofs.Common.{arith}
use Rattle.bench_decode.proofs.Drawing.{told-placed}
use Rattle.bench_decode.proofs.line.TextLine.put_number.Goals as goal

pub returns-clause-put : goal.returns-clause-put
returns-clause-put c =
    told-placed _ _ _ _ _ _ _ _ c.self.inside.shown c.args.self.now c.as_mut_slice.ensures.value c.place_decimal-self-inside.ensures.placed (omega (arith, c.place_decimal-self-inside.ensures.placed.size, c.as_mut_slice.ensures.len)) c.self.invariant.begins c.self.view_is
