use Rattle.std.proofs.Common.{refl}
use Rattle.signal_values.proofs.scaling.is_product_negative.Goals as goal

pub returns-then-one : goal.returns-then-one
returns-then-one c = rw c.if-one.true refl

pub returns-else-one : goal.returns-else-one
returns-else-one c = rw c.if-one.false refl
