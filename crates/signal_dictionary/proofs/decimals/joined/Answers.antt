use Rattle.std.proofs.Common.{arith, length}
use Rattle.signal_dictionary.proofs.Digits.{joined-small}
use Rattle.signal_dictionary.proofs.decimals.joined.Goals as goal

pub overflow_mul-upper : goal.overflow_mul-upper
overflow_mul-upper c =
    let small = joined-small (length c.args.whole.now) (length c.args.behind.now) c.number-front.result c.number-back.result c.requires.few c.number-front.ensures.small c.number-back.ensures.small in
    rw c.ten_to-scale.ensures.value (omega (arith, small))

pub overflow_add-result : goal.overflow_add-result
overflow_add-result c =
    let small = joined-small (length c.args.whole.now) (length c.args.behind.now) c.number-front.result c.number-back.result c.requires.few c.number-front.ensures.small c.number-back.ensures.small in
    rw c.ten_to-scale.ensures.value (omega (arith, small))

pub returns-clause-small : goal.returns-clause-small
returns-clause-small c =
    let small = joined-small (length c.args.whole.now) (length c.args.behind.now) c.number-front.result c.number-back.result c.requires.few c.number-front.ensures.small c.number-back.ensures.small in
    rw c.ten_to-scale.ensures.value (omega (arith, small))
