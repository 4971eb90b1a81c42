use Rattle.std.proofs.Common.{refl, sym, arith, length}
use Rattle.std.proofs.lemmas.List.Sums.{position_or_len_is}
use Rattle.signal_dictionary.specs.Namings.{is_equals}
use Rattle.signal_dictionary.proofs.namings.len_before_equals.Goals as goal

pub returns-then-byte-eq61-clause-value : goal.returns-then-byte-eq61-clause-value
returns-then-byte-eq61-clause-value c = sym (position_or_len_is is_equals c.args.word.now c.loop-i.i 0 (omega arith) c.loop-i.invariant (λ lt. rw c.if-byte-eq61.true refl))

pub returns-clause-value : goal.returns-clause-value
returns-clause-value c = sym (position_or_len_is is_equals c.args.word.now (length c.args.word.now) 0 (omega arith) (λ k lt. c.loop-i.invariant k (omega arith)) (λ lt. absurd (omega arith)))
