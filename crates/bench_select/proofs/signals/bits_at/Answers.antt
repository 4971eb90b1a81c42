use Rattle.std.proofs.Common.{arith}
use Rattle.bench_select.proofs.Bits.{bits_in_range, pair_in_range}
use Rattle.bench_select.proofs.signals.bits_at.Goals as goal

pub bits_in-requires-clause-order : goal.bits_in-requires-clause-order
bits_in-requires-clause-order c = (bits_in_range c.in-Bits.word c.in-Bits.high c.in-Bits.low (rw c.in-Bits.is at c.requires)).order

pub bits_in-requires-clause-most : goal.bits_in-requires-clause-most
bits_in-requires-clause-most c = (bits_in_range c.in-Bits.word c.in-Bits.high c.in-Bits.low (rw c.in-Bits.is at c.requires)).most

pub overflow_add-second : goal.overflow_add-second
overflow_add-second c = let r = pair_in_range c.in-Pair.first (rw c.in-Pair.is at c.requires) in omega (arith, r.1)
