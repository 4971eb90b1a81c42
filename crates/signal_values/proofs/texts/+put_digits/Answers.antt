use Rattle.std.proofs.Common.{◌-◌, arith}
use Rattle.signal_values.proofs.Digits.{digits_more}
use Rattle.signal_values.proofs.texts.+put_digits.Goals as goal

pub returns : goal.returns
returns t c =
    digits_more c.args.text.now.items _ _ (c.args.count - 1) c.args.count c.args.value (omega (arith, c.if-count-eq0.false))
    c.in_ok-put_digits.ensures c.in_ok-push.ensures.items
