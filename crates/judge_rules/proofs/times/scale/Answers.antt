use Rattle.std.proofs.Common.{arith}
use Rattle.judge_rules.proofs.Products.{ten_to}
use Rattle.judge_rules.proofs.times.scale.Goals as goal

pub returns-clause-small : goal.returns-clause-small
returns-clause-small c = omega (arith, c.pow.ensures, ten_to c.args.places c.requires)
