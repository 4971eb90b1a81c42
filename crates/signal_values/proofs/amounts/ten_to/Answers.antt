use Rattle.signal_values.proofs.Signs.{ten_most, ten_some}
use Rattle.signal_values.proofs.amounts.ten_to.Goals as goal

pub returns-clause-some : goal.returns-clause-some
returns-clause-some c = rw (c.pow.ensures, c.from.ensures) (ten_some c.args.places)

pub returns-clause-most : goal.returns-clause-most
returns-clause-most c = rw (c.pow.ensures, c.from.ensures) (ten_most c.args.places c.requires)
