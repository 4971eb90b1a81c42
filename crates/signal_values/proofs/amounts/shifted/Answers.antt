use Rattle.std.proofs.Common.{arith}
use Rattle.signal_values.proofs.Signs.{shifted_below, shifted_size}
use Rattle.signal_values.proofs.amounts.shifted.Goals as goal

pub overflow_mul-result : goal.overflow_mul-result
overflow_mul-result c =
    rw (c.from.ensures, c.ten_to-one.ensures.value, c.ten_to.ensures.value) (omega (arith, shifted_below c.args.magnitude c.args.places c.requires))

pub invariant_of-result : goal.invariant_of-result
invariant_of-result c = record { few = rw (c.from.ensures, c.ten_to-one.ensures.value, c.ten_to.ensures.value) (shifted_below c.args.magnitude c.args.places c.requires) }

pub returns-clause-size : goal.returns-clause-size
returns-clause-size c =
    rw (c.from.ensures, c.from-2.ensures, c.ten_to-one.ensures.value, c.ten_to.ensures.value) (shifted_size c.args.magnitude c.args.places c.requires)
