use Rattle.std.proofs.Common.{sym, ◌∙◌, arith}
use Rattle.numerals.proofs.Digits.{value-below}
use Rattle.numerals.proofs.spelled.Goals as goal

pub returns-then-all_digits-clause-small : goal.returns-then-all_digits-clause-small
returns-then-all_digits-clause-small c =
    rw c.number.ensures (value-below c.args.base c.args.most c.args.word.now c.requires.base (omega arith) (sym c.all_digits.ensures ∙ c.if-all_digits.true))
