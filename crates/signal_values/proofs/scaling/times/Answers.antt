use Rattle.std.proofs.Common.{◌-◌, ◌^◌}
use Rattle.signal_values.proofs.Signs.{product_shifted}
use Rattle.signal_values.proofs.scaling.times.Goals as goal

pub returns-clause-value : goal.returns-clause-value
returns-clause-value c =
    rw (c.shifted.ensures.sign, c.shifted.ensures.size, c.is_product_negative-negative.ensures, c.from.ensures, c.from-2.ensures)
    (product_shifted c.args.raw.negative c.args.decimal.negative c.args.raw.magnitude c.args.decimal.digits (10 ^ (17 - c.args.decimal.places)))
