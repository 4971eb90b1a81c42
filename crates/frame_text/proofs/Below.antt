-- What reads a condition within another.
use Rattle.std.proofs.Common.{◌≡◌, ◌≢◌, ℕ, zero, suc, ◌-◌, refl, sym, ap, arith, Ok, Err}
use Rattle.frame_text.specs.Conditions.{below_at, condition_at}
use Rattle.frame_text.specs.declared.faults.Cause.TheVariants as cause

pub below_some : (d : ℕ) → d ≢ 0 → below_at d ≡ Ok (condition_at (d - 1))
unfolding below_at
below_some zero h = absurd (h refl)
below_some (suc d) h = let e : suc d - 1 ≡ d = omega arith in ap (λ k. Ok (condition_at k)) (sym e)

pub below_none : (d : ℕ) → d ≡ 0 → below_at d ≡ Err cause.Depth
unfolding below_at
below_none d e = ap below_at e
