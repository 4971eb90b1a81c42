use Rattle.std.proofs.Common.{ℕ, suc, ◌*◌, inl, inr, refl, ap, arith}
use Rattle.bench_draw.proofs.axis.step_of.Goals as goal

pub powers-init : goal.powers-init
powers-init c = ((0, refl), omega arith, inl refl)

pub powers-smaller : goal.powers-smaller
powers-smaller c = omega (arith, c.powers-test.true, c.powers.invariant.1)

pub powers-preserved : goal.powers-preserved
powers-preserved c =
    ((suc c.powers.invariant.0.0, omega (arith, c.powers.invariant.0.1)), omega (arith, c.powers.invariant.1), inr (omega (arith, c.powers-test.true)))

pub returns-then-span-power-clause-round : goal.returns-then-span-power-clause-round
returns-then-span-power-clause-round c = (c.powers.invariant.0.0, inl c.powers.invariant.0.1)

pub returns-then-span-power-clause-at_least_four : goal.returns-then-span-power-clause-at_least_four
returns-then-span-power-clause-at_least_four c = λ four. elim c.powers.invariant.2 [
  | inl one ↦ omega (arith, one, four)
  | inr many ↦ omega (arith, many)
]

pub returns-then-span-power-2-clause-round : goal.returns-then-span-power-2-clause-round
returns-then-span-power-2-clause-round c = (c.powers.invariant.0.0, inr (inl (ap (λ (n : ℕ). 2 * n) c.powers.invariant.0.1)))

pub returns-else-span-power-2-clause-round : goal.returns-else-span-power-2-clause-round
returns-else-span-power-2-clause-round c = (c.powers.invariant.0.0, inr (inr (ap (λ (n : ℕ). 5 * n) c.powers.invariant.0.1)))
