-- What holds of each number below a bound, shown number by number.
use Rattle.std.proofs.Common.{◌≡◌, ℕ, zero, suc, ◌<◌, ⊎_elim, arith, subst}
use Rattle.std.proofs.lemmas.Bool.{cases_lt}

abbrev pub Each : (ℕ → Type 0) → ℕ → Type 0
Each P zero = Unit {0}
Each P (suc n) = P n × Each P n

pub pick : (P : ℕ → Type 0) (n : ℕ) → Each P n → (k : ℕ) → k < n → P k
pick P zero all k h = absurd (omega (arith, h))
pick P (suc n) all k h = ⊎_elim (λ below. pick P n all.1 k below) (λ le. let e : n ≡ k = omega (arith, h, le) in subst P e all.0) (cases_lt k n)
