use Rattle.std.proofs.Common.{sym, arith}
use Rattle.numerals.proofs.Digits.{value-more}
use Rattle.numerals.proofs.number.Goals as goal

pub overflow_mul-total : goal.overflow_mul-total
overflow_mul-total c =
    let more = value-more c.args.base c.args.word.now c.loop-byte.byte-index c.requires.base c.requires.few c.requires.digits c.loop-byte-test.true in
    rw (c.from.ensures, c.loop-byte.invariant) (omega (arith, more.1))

pub overflow_add-total : goal.overflow_add-total
overflow_add-total c =
    let more = value-more c.args.base c.args.word.now c.loop-byte.byte-index c.requires.base c.requires.few c.requires.digits c.loop-byte-test.true in
    rw (c.from.ensures, c.from-in-loop-byte.ensures, c.digit.ensures.value, c.loop-byte.invariant) (omega (arith, more.1))

pub loop-byte-preserved : goal.loop-byte-preserved
loop-byte-preserved c =
    let more = value-more c.args.base c.args.word.now c.loop-byte.byte-index c.requires.base c.requires.few c.requires.digits c.loop-byte-test.true in
    rw (c.from.ensures, c.from-in-loop-byte.ensures, c.digit.ensures.value, c.loop-byte.invariant) (sym more.0)
