use Rattle.std.proofs.Common.{◌≡◌, rules, sym, ◌∙◌}
use Rattle.signal_values.specs.Amounts.{magnitude_of}
use Rattle.signal_values.proofs.Signs.{differ-first, differ-second}
use Rattle.signal_values.proofs.exact.Amount.differs_by_at_most.Goals as goal

pub returns-then-is_smaller : goal.returns-then-is_smaller
returns-then-is_smaller c =
    let one = c.args.self in
    let same : one.negative ≡ c.args.other.negative = search rules in
    rw (c.is_smaller-then-is_smaller.ensures, ← same)
    (differ-second one.negative c.args.most.negative (magnitude_of one) (magnitude_of c.args.other) (magnitude_of c.without.result) (magnitude_of c.args.most)
    (sym c.is_below_zero.ensures ∙ c.if-is_below_zero.false) c.without.ensures.size)

pub returns-else-is_smaller : goal.returns-else-is_smaller
returns-else-is_smaller c =
    let one = c.args.self in
    let same : one.negative ≡ c.args.other.negative = search rules in
    rw (c.is_smaller-else-is_smaller.ensures, ← same)
    (differ-first one.negative c.args.most.negative (magnitude_of one) (magnitude_of c.args.other) (magnitude_of c.without-else-is_smaller.result) (magnitude_of c.args.most)
    (sym c.is_below_zero.ensures ∙ c.if-is_below_zero.false) c.without-else-is_smaller.ensures.size)
