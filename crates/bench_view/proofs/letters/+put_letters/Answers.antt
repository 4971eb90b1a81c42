use Rattle.std.proofs.Common.{◌-◌, arith}
use Rattle.bench_view.proofs.Lettering.{letters_last, letters_more}
use Rattle.bench_view.proofs.letters.+put_letters.Goals as goal

pub returns-then-value-lt64 : goal.returns-then-value-lt64
returns-then-value-lt64 t c =
    letters_last c.args.text.now.items _ c.args.most c.args.value c.if-most-eq0.false c.if-value-lt64.true (rw c.letter_of-last.ensures at c.in_ok-push.ensures.items)

pub returns : goal.returns
returns t c =
    letters_more c.args.text.now.items _ _ (c.args.most - 1) c.args.most c.args.value (omega (arith, c.if-most-eq0.false)) (omega (arith, c.if-value-lt64.false))
    c.in_ok-put_letters.ensures (rw c.letter_of-last.ensures at c.in_ok-push-2.ensures.items)
