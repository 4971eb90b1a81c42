-- Hexadecimal digits of a table.
use Rattle.std.proofs.Common.{◌≡◌, ℕ, zero, suc, ◌+◌, ◌-◌, ◌/◌, ◌%◌, ◌<◌, Bool, true, ◌&&◌, T, eqb, eqb→eq, List, [], ◌∷◌, ◌++◌, refl, inl, inr, arith, eq-zero-or-pos}
use Rattle.std.specs.Prelude.{slice_index_or, nat_lt, if◌then◌else◌}
use lib.Ieee.Fits.{and_l, and_r}
use Rattle.bench_dump.specs.DumpText.{word_digits}
use Rattle.bench_decode.specs.declared.digits.TheConstants.{HEXADECIMAL}

abbrev digit_of : ℕ → ℕ
digit_of n = if nat_lt n 10 then 48 + n else 55 + n

abbrev at : ℕ → ℕ
at k = slice_index_or HEXADECIMAL k 0

abbrev are_digits : ℕ → Bool
are_digits zero = true
are_digits (suc n) = eqb (at n) (digit_of n) && are_digits n

digit_below : (n k : ℕ) → T (are_digits n) → k < n → at k ≡ digit_of k
digit_below zero k t h = absurd (omega arith)
digit_below (suc n) k t h =
    elim (eq-zero-or-pos (n - k)) [
      | inl z ↦ let e : k ≡ n = omega arith in rw e (eqb→eq _ _ (and_l _ (are_digits n) t))
      | inr g ↦ digit_below n k (and_r _ (are_digits n) t) (omega arith)
    ]

digit_at : (k : ℕ) → k < 16 → at k ≡ digit_of k
digit_at k h = digit_below 16 k tt h

pub word_at : (w : ℕ) → w < 65536 → at (w / 4096) ∷ at (w / 256 % 16) ∷ at (w / 16 % 16) ∷ at (w % 16) ∷ [] ≡ word_digits w
word_at w fits =
    let a : w / 256 / 16 ≡ w / 4096 = omega arith in
    let b : w % 256 / 16 ≡ w / 16 % 16 = omega arith in
    let c : w % 256 % 16 ≡ w % 16 = omega arith in
    rw (a, b, c, digit_at (w / 4096) (omega arith), digit_at (w / 256 % 16) (omega arith), digit_at (w / 16 % 16) (omega arith), digit_at (w % 16) (omega arith)) refl
