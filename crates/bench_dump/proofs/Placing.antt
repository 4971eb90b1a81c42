-- Bytes placed in a buffer, one after the other.
use Rattle.std.proofs.Common.{◌≡◌, ℕ, zero, suc, ◌+◌, ◌-◌, ◌*◌, ◌/◌, ◌%◌, ◌^◌, ◌<◌, ◌≤◌, Bool, true, ◌&&◌, T, eqb, List, [], ◌∷◌, ◌++◌, length, take, get_or, set, length-set, refl, sym, ap, ◌∙◌, inl, inr, arith, eq-zero-or-pos, eqb→eq, append_assoc, length-append}
use Rattle.std.proofs.lemmas.List.{take_more_set, append-nil}
use lib.Ieee.Fits.{and_l, and_r}
use Rattle.std.specs.Fmt.{decimal}
use Rattle.itoa.proofs.Decimal.{decimal_pair, decimal_four}
use Rattle.numerals.specs.Numerals.{digit_of}
use Rattle.bench_dump.specs.DumpText.{bus_words}
use Rattle.bench_dump.specs.Places.{IsPutInBuffer, two_digits, four_digits, eight_digits}
use Rattle.bench_dump.proofs.Steps.{bus_words_end}
use Rattle.bench_dump.specs.declared.digits.TheConstants.{HEXADECIMAL, DECIMAL}

-- what was placed behind other bytes follows them
pub placed_then : (before middle after : List ℕ) (at between end : ℕ) (first second : List ℕ) → IsPutInBuffer before middle at first between → IsPutInBuffer middle after between second end → IsPutInBuffer before after at (first ++ second) end
placed_then before middle after at between end first second a b = record {
  text = b.text ∙ ap (λ (l : List ℕ). l ++ second) a.text ∙ append_assoc (take at before) first second;
  moved = omega (arith, a.moved, b.moved, length-append first second);
  size = b.size ∙ a.size;
}

-- a byte, and two bytes, that were stored
pub placed_one : (buffer : List ℕ) (at byte : ℕ) → at < length buffer → IsPutInBuffer buffer (set buffer at byte) at (byte ∷ []) (at + 1)
placed_one buffer at byte within = record { text = take_more_set buffer at byte within; moved = refl; size = length-set buffer at byte }

pub placed_pair : (buffer : List ℕ) (at first second : ℕ) → at + 2 ≤ length buffer → IsPutInBuffer buffer (set (set buffer at first) (at + 1) second) at (first ∷ second ∷ []) (at + 2)
placed_pair buffer at first second within =
    let one = placed_one buffer at first (omega arith) in
    let two = placed_one (set buffer at first) (at + 1) second (omega (arith, length-set buffer at first)) in
    let end : at + 2 ≡ at + 1 + 1 = omega arith in
    rw end (placed_then buffer (set buffer at first) (set (set buffer at first) (at + 1) second) at (at + 1) (at + 1 + 1) (first ∷ []) (second ∷ []) one two)

-- the first numbers stand in a table of pairs
abbrev are_pairs : List ℕ → (ℕ → ℕ) → (ℕ → ℕ) → ℕ → Bool
are_pairs table high low zero = true
are_pairs table high low (suc n) = (eqb (get_or table (n * 2) 0) (high n) && eqb (get_or table (n * 2 + 1) 0) (low n)) && are_pairs table high low n

pair_at : (table : List ℕ) (high low : ℕ → ℕ) (n k : ℕ) → T (are_pairs table high low n) → k < n → (get_or table (k * 2) 0 ≡ high k) × (get_or table (k * 2 + 1) 0 ≡ low k)
pair_at table high low zero k t h = absurd (omega arith)
pair_at table high low (suc n) k t h =
    elim (eq-zero-or-pos (n - k)) [
      | inl z ↦ let e : k ≡ n = omega arith in let a = and_l _ (are_pairs table high low n) t in rw e (eqb→eq _ _ (and_l _ _ a), eqb→eq _ _ (and_r _ _ a))
      | inr g ↦ pair_at table high low n k (and_r _ (are_pairs table high low n) t) (omega arith)
    ]

pub hexadecimal_at : (k : ℕ) → k < 256 → (get_or HEXADECIMAL (k * 2) 0 ≡ digit_of (k / 16)) × (get_or HEXADECIMAL (k * 2 + 1) 0 ≡ digit_of (k % 16))
hexadecimal_at k h = pair_at HEXADECIMAL (λ n. digit_of (n / 16)) (λ n. digit_of (n % 16)) 256 k tt h

pub decimal_at : (k : ℕ) → k < 100 → (get_or DECIMAL (k * 2) 0 ≡ 48 + k / 10) × (get_or DECIMAL (k * 2 + 1) 0 ≡ 48 + k % 10)
decimal_at k h = pair_at DECIMAL (λ n. 48 + n / 10) (λ n. 48 + n % 10) 100 k tt h

-- a number of more digits is that of its first ones and its last two, four or eight
pub decimal_hundreds : (n : ℕ) → 100 ≤ n → n < 2 ^ 64 → decimal n ≡ decimal (n / 100) ++ two_digits (n % 100)
decimal_hundreds n lo hi = decimal_pair n lo hi

pub decimal_fours : (n : ℕ) → 10000 ≤ n → n < 2 ^ 64 → decimal n ≡ decimal (n / 10000) ++ four_digits (n % 10000)
decimal_fours n lo hi = decimal_four n lo hi

pub decimal_eights : (n : ℕ) → 100000000 ≤ n → n < 2 ^ 64 → decimal n ≡ decimal (n / 100000000) ++ eight_digits (n % 100000000)
decimal_eights n lo hi =
    let a : n / 10000 / 10000 ≡ n / 100000000 = omega arith in
    let b : n / 10000 % 10000 ≡ n % 100000000 / 10000 = omega arith in
    let c : n % 10000 ≡ n % 100000000 % 10000 = omega arith in
    rw (decimal_fours n (omega arith) hi, decimal_fours (n / 10000) (omega arith) (omega arith), append_assoc, a, b, c)

-- each bus word is five bytes of text
pub length_bus_words : (words : List ℕ) → length (bus_words words) ≡ 5 * (length words / 2)
length_bus_words [] = refl
length_bus_words (low ∷ []) = refl
length_bus_words (low ∷ high ∷ words) = omega (arith, length_bus_words words)

-- the first bus words were placed, and the rest will be
pub record IsPlacing (before after : List ℕ) (start at : ℕ) (words rest : List ℕ) : Type 0 where
  pub text : take at after ++ bus_words rest ≡ take start before ++ bus_words words
  pub moved : at + 5 * (length rest / 2) ≡ start + 5 * (length words / 2)
  pub size : length after ≡ length before

pub words_placed : (before after : List ℕ) (start at : ℕ) (words rest : List ℕ) → IsPlacing before after start at words rest → length rest < 2 → IsPutInBuffer before after start (bus_words words) at
words_placed before after start at words rest p short = record {
  text = sym (append-nil (take at after)) ∙ ap (λ (l : List ℕ). take at after ++ l) (sym (bus_words_end rest short)) ∙ p.text;
  moved = omega (arith, p.moved, length_bus_words words);
  size = p.size;
}
