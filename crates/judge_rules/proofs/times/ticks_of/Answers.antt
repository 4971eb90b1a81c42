use Rattle.std.proofs.Common.{arith}
use Rattle.judge_rules.proofs.Products.{whole_product}
use Rattle.judge_rules.proofs.times.ticks_of.Goals as goal

pub overflow_mul-whole_ticks : goal.overflow_mul-whole_ticks
overflow_mul-whole_ticks c = omega (arith, whole_product c.in_ok-units.units c.scale.result c.in_ok-units.ensures.small c.scale.ensures.small)

pub overflow_add-result : goal.overflow_add-result
overflow_add-result c = omega (arith, whole_product c.in_ok-units.units c.scale.result c.in_ok-units.ensures.small c.scale.ensures.small, c.in_ok-ticks.ensures.small)
