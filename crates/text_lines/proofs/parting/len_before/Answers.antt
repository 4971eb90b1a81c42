use Rattle.std.proofs.Common.{eq-eqb, sym, arith, length}
use Rattle.std.specs.Prelude.{◌==◌}
use Rattle.std.proofs.lemmas.List.Sums.{position_or_len_is}
use Rattle.text_lines.proofs.parting.len_before.Goals as goal

pub returns-then-one-byte-clause-value : goal.returns-then-one-byte-clause-value
returns-then-one-byte-clause-value c = sym (position_or_len_is (λ b. b == c.args.byte) c.args.text.now c.loop-i.i 0 (omega arith) c.loop-i.invariant (λ lt. eq-eqb _ c.args.byte c.if-one-byte.true))

pub returns-clause-value : goal.returns-clause-value
returns-clause-value c = sym (position_or_len_is (λ b. b == c.args.byte) c.args.text.now (length c.args.text.now) 0 (omega arith) (λ k lt. c.loop-i.invariant k (omega arith)) (λ lt. absurd (omega arith)))
