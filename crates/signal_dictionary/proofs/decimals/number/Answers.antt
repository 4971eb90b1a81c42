use Rattle.std.proofs.Common.{sym, arith}
use Rattle.signal_dictionary.proofs.Digits.{value-more, value-part}
use Rattle.signal_dictionary.proofs.decimals.number.Goals as goal

pub overflow_mul-total : goal.overflow_mul-total
overflow_mul-total c =
    let more = value-more c.args.text.now c.loop-byte.byte-index c.requires.few c.requires.digits c.loop-byte-test.true in
    rw c.loop-byte.invariant (omega (arith, more.1))

pub overflow_add-total : goal.overflow_add-total
overflow_add-total c =
    let more = value-more c.args.text.now c.loop-byte.byte-index c.requires.few c.requires.digits c.loop-byte-test.true in
    rw (c.from.ensures, c.digit.ensures.value, c.loop-byte.invariant) (omega (arith, more.1))

pub loop-byte-preserved : goal.loop-byte-preserved
loop-byte-preserved c =
    let more = value-more c.args.text.now c.loop-byte.byte-index c.requires.few c.requires.digits c.loop-byte-test.true in
    rw (c.from.ensures, c.digit.ensures.value, c.loop-byte.invariant) (sym more.0)

pub returns-clause-small : goal.returns-clause-small
returns-clause-small c = rw c.loop-byte.invariant (value-part c.args.text.now c.loop-byte.byte-index c.requires.digits)
