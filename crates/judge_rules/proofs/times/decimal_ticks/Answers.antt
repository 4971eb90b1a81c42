use Rattle.std.proofs.Common.{arith}
use Rattle.judge_rules.proofs.Products.{decimal_product}
use Rattle.judge_rules.proofs.times.decimal_ticks.Goals as goal

pub overflow_mul-result : goal.overflow_mul-result
overflow_mul-result c = omega (arith, decimal_product c.in_ok-number.number c.args.places c.scale.result c.requires c.in_ok-number.ensures.small c.scale.ensures.small)

pub returns-clause-small : goal.returns-clause-small
returns-clause-small c = decimal_product c.in_ok-number.number c.args.places c.scale.result c.requires c.in_ok-number.ensures.small c.scale.ensures.small
