use Rattle.std.proofs.Common.{length, sym, arith, eq-eqb}
use Rattle.std.proofs.lemmas.List.Sums.{position_or_len_is}
use Rattle.bench_names.specs.Attributes as spec
use Rattle.bench_names.proofs.attributes.place_of.Goals as goal

-- src/attributes.rt:24:13
pub returns-then-byte-wanted-clause-value : goal.returns-then-byte-wanted-clause-value
returns-then-byte-wanted-clause-value c = sym (position_or_len_is (spec.is_byte c.args.wanted) c.args.text.now c.loop-i.i 0 (omega arith) c.loop-i.invariant (λ lt. eq-eqb _ c.args.wanted c.if-byte-wanted.true))

-- src/attributes.rt:18:1
pub returns-clause-value : goal.returns-clause-value
returns-clause-value c = sym (position_or_len_is (spec.is_byte c.args.wanted) c.args.text.now (length c.args.text.now) 0 (omega arith) (λ k lt. c.loop-i.invariant k (omega arith)) (λ lt. absurd (omega arith)))
