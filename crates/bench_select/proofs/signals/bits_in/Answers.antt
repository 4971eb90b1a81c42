use Rattle.bench_select.proofs.Bits.{bits_below}
use Rattle.bench_select.proofs.signals.bits_in.Goals as goal

pub returns-clause-small : goal.returns-clause-small
returns-clause-small c = rw c.bits_of.ensures (bits_below c.in_ok-word.word c.args.high c.args.low c.requires.order)
