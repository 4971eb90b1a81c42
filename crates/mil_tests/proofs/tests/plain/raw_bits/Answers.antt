use Rattle.std.proofs.Common.{◌-◌, sym, arith}
use Rattle.mil_word.proofs.WaveLemmas.{raw_is, raw_below}
use Rattle.mil_tests.proofs.BitByBit.{raw_small, one_more_bit_of, whole_value}
use Rattle.mil_tests.proofs.tests.plain.raw_bits.Goals as goal

pub loop-pair-init : goal.loop-pair-init
loop-pair-init c = omega (arith, raw_is c.args.wave)

pub overflow_mul-raw : goal.overflow_mul-raw
overflow_mul-raw c = omega (arith, raw_small c.loop-pair.pair c.loop-pair.raw _ _ c.loop-pair.invariant (raw_below c.args.wave))

pub overflow_add-raw : goal.overflow_add-raw
overflow_add-raw c = omega (arith, c.half_at.ensures, raw_small c.loop-pair.pair c.loop-pair.raw _ _ c.loop-pair.invariant (raw_below c.args.wave))

pub loop-pair-preserved : goal.loop-pair-preserved
loop-pair-preserved c = one_more_bit_of c.loop-pair.pair (c.loop-pair.pair - 1) c.args.wave c.loop-pair.raw c.half_at.result _ (omega arith) c.half_at.ensures c.loop-pair.invariant

pub overflow_cast-result : goal.overflow_cast-result
overflow_cast-result c = omega (arith, raw_small c.loop-pair.pair c.loop-pair.raw _ _ c.loop-pair.invariant (raw_below c.args.wave))

pub returns : goal.returns
returns c = sym (whole_value c.loop-pair.pair c.loop-pair.raw c.args.wave c.loop-pair-test.false c.loop-pair.invariant)
