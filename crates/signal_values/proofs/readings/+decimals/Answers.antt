use Rattle.std.proofs.Common.{◌-◌, ◌%◌, arith}
use Rattle.signal_values.proofs.Decimals.{digit_above, digit_behind, digit_behind_none, few_digits, no_digits, one_more}
use Rattle.signal_values.proofs.readings.+decimals.Goals as goal

pub returns-then-count-eq0-clause-value : goal.returns-then-count-eq0-clause-value
returns-then-count-eq0-clause-value t c = no_digits c.args.count c.args.field c.if-count-eq0.true

pub returns-in_err-upper-clause-value : goal.returns-in_err-upper-clause-value
returns-in_err-upper-clause-value t c =
    rw c.from_residual.ensures (digit_behind_none c.args.count (c.args.count - 1) c.args.field (omega (arith, c.if-count-eq0.false)) c.in_err-upper.ensures.value)

pub overflow_mul-result : goal.overflow_mul-result
overflow_mul-result t c =
    let few = few_digits (c.args.count - 1) c.in_ok-upper.upper (omega (arith, c.requires)) c.in_ok-upper.ensures.small in omega (arith, few)

pub overflow_add-result : goal.overflow_add-result
overflow_add-result t c =
    let few = few_digits (c.args.count - 1) c.in_ok-upper.upper (omega (arith, c.requires)) c.in_ok-upper.ensures.small in omega (arith, few, c.if-digit-le9.true)

pub returns-then-digit-le9-clause-value : goal.returns-then-digit-le9-clause-value
returns-then-digit-le9-clause-value t c =
    digit_behind c.args.count (c.args.count - 1) c.args.field c.in_ok-upper.upper (omega (arith, c.if-count-eq0.false)) c.in_ok-upper.ensures.value c.if-digit-le9.true

pub returns-then-digit-le9-clause-small : goal.returns-then-digit-le9-clause-small
returns-then-digit-le9-clause-small t c =
    one_more c.args.count (c.args.count - 1) c.in_ok-upper.upper (c.args.field % 16) (omega (arith, c.if-count-eq0.false)) c.in_ok-upper.ensures.small c.if-digit-le9.true

pub returns-else-digit-le9-clause-value : goal.returns-else-digit-le9-clause-value
returns-else-digit-le9-clause-value t c =
    digit_above c.args.count (c.args.count - 1) c.args.field c.in_ok-upper.upper (omega (arith, c.if-count-eq0.false)) c.in_ok-upper.ensures.value (omega (arith, c.if-digit-le9.false))
