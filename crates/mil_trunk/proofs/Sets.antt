-- What is in a set of tags.
use Rattle.std.proofs.Common.{◌≡◌, ◌<◌, ◌≤◌, ◌⊎◌, inl, inr, ℕ, zero, suc, ◌+◌, Bool, true, false, not, ◌&&◌, ◌||◌, max, refl, sym, ap, ◌∙◌, arith, true≢false, ◌*◌, ◌/◌, ◌%◌, ◌^◌, ◌≢◌, w64, lit<}
use Rattle.std.specs.Prelude.{◌==◌, bit_and, bit_or}
use Rattle.std.specs.Int.{bit_at}
use Rattle.std.proofs.lemmas.Nat.{or_lt, mod_below}
use Rattle.std.proofs.lemmas.Nat.Bits.{bit_at-zero, bit_at_or, bit_at_xor, bit_at_ones, bit_at-lt, bit_at_above, bit_at_set_same, bit_at_set_other, shr_and_one}
use Rattle.mil_trunk.specs.Tags.{has, all_tags, union, minus}

-- the empty set
pub has-zero : (t : ℕ) → has 0 t ≡ false
unfolding has
has-zero t = rw (bit_at-zero t) refl

pub has-all_tags : (t : ℕ) → t < 64 → has all_tags t ≡ true
unfolding has all_tags
has-all_tags t below = rw (bit_at_ones 64 t below) refl

-- a number from 64 on is in no set
pub has_above : (a t : ℕ) → a < 2 ^ 64 → 64 ≤ t → has a t ≡ false
unfolding has
has_above a t fits le = rw (bit_at_above a 64 t fits le) refl

-- how the code sets and reads a bit
pub has_set_same : (a t : ℕ) → t < 64 → has (bit_or a (1 * 2 ^ t % 2 ^ 64)) t ≡ true
unfolding has
has_set_same a t below = rw (bit_at_set_same w64 a t below) refl

pub set_fits : (a t : ℕ) → a < 2 ^ 64 → bit_or a (1 * 2 ^ t % 2 ^ 64) < 2 ^ 64
set_fits a t fits = or_lt 64 a (1 * 2 ^ t % 2 ^ 64) fits (mod_below (1 * 2 ^ t) (2 ^ 64) (lit< tt))

pub has_set_other : (a t k : ℕ) → t < 64 → k ≢ t → has (bit_or a (1 * 2 ^ t % 2 ^ 64)) k ≡ has a k
unfolding has
has_set_other a t k below ne = ap (λ n. n == 1) (bit_at_set_other w64 a t below k ne)

pub has_read : (a t : ℕ) → (bit_and (a / 2 ^ t) 1 == 1) ≡ has a t
unfolding has
has_read a t = ap (λ n. n == 1) (shr_and_one a t)

or_of_bits : (a b : ℕ) → a < 2 → b < 2 → (max a b == 1) ≡ ((a == 1) || (b == 1))
or_of_bits zero zero p q = refl
or_of_bits zero (suc zero) p q = refl
or_of_bits (suc zero) zero p q = refl
or_of_bits (suc zero) (suc zero) p q = refl
or_of_bits (suc (suc a)) b p q = absurd (omega arith)
or_of_bits a (suc (suc b)) p q = absurd (omega arith)

pub has-union : (a b t : ℕ) → has (union a b) t ≡ (has a t || has b t)
unfolding has union
has-union a b t = rw (bit_at_or a b t) (or_of_bits (bit_at a t) (bit_at b t) (bit_at-lt a t) (bit_at-lt b t))

and_not_of_bits : (a b : ℕ) → a < 2 → b < 2 → ((max a b + b) % 2 == 1) ≡ ((a == 1) && not (b == 1))
and_not_of_bits zero zero p q = refl
and_not_of_bits zero (suc zero) p q = refl
and_not_of_bits (suc zero) zero p q = refl
and_not_of_bits (suc zero) (suc zero) p q = refl
and_not_of_bits (suc (suc a)) b p q = absurd (omega arith)
and_not_of_bits a (suc (suc b)) p q = absurd (omega arith)

pub has-minus : (a b t : ℕ) → has (minus a b) t ≡ (has a t && not (has b t))
unfolding has minus
has-minus a b t = rw (bit_at_xor (bit_or a b) b t, bit_at_or a b t) (and_not_of_bits (bit_at a t) (bit_at b t) (bit_at-lt a t) (bit_at-lt b t))

pub is_either : (b : Bool) → (b ≡ true) ⊎ (b ≡ false)
is_either true = inl refl
is_either false = inr refl

and_not_true : (a b : Bool) → (a && not b) ≡ true → (a ≡ true) × (b ≡ false)
and_not_true true true e = absurd (true≢false (sym e))
and_not_true true false e = (refl, refl)
and_not_true false b e = absurd (true≢false (sym e))

and_not_false : (a b : Bool) → (a && not b) ≡ false → (a ≡ false) ⊎ (b ≡ true)
and_not_false true true e = inr refl
and_not_false true false e = absurd (true≢false e)
and_not_false false b e = inl refl

or_true : (a b : Bool) → (a || b) ≡ true → (a ≡ true) ⊎ (b ≡ true)
or_true true b e = inl refl
or_true false b e = inr e

or_false : (a b : Bool) → (a || b) ≡ false → (a ≡ false) × (b ≡ false)
or_false true b e = absurd (true≢false e)
or_false false b e = (refl, e)

pub in_minus : (a b t : ℕ) → has (minus a b) t ≡ true → (has a t ≡ true) × (has b t ≡ false)
in_minus a b t e = and_not_true (has a t) (has b t) (sym (has-minus a b t) ∙ e)

pub not_in_minus : (a b t : ℕ) → has (minus a b) t ≡ false → (has a t ≡ false) ⊎ (has b t ≡ true)
not_in_minus a b t e = and_not_false (has a t) (has b t) (sym (has-minus a b t) ∙ e)

pub in_union : (a b t : ℕ) → has (union a b) t ≡ true → (has a t ≡ true) ⊎ (has b t ≡ true)
in_union a b t e = or_true (has a t) (has b t) (sym (has-union a b t) ∙ e)

pub not_in_union : (a b t : ℕ) → has (union a b) t ≡ false → (has a t ≡ false) × (has b t ≡ false)
not_in_union a b t e = or_false (has a t) (has b t) (sym (has-union a b t) ∙ e)
