use Rattle.std.proofs.Common.{arith}
use Rattle.std.proofs.Math.Nat.{pow-le-pow_right}
use Rattle.signal_dictionary.proofs.decimals.ten_to.Goals as goal

pub returns-clause-small : goal.returns-clause-small
returns-clause-small c = omega (arith, c.pow.ensures, pow-le-pow_right {n = 10} (omega arith) {i = c.args.places} {j = 18} c.requires)
