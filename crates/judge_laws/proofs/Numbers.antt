-- The number of the form that a command word belongs to.
use Rattle.std.proofs.Common.{◌≡◌, ℕ, ◌≤◌, ◌==◌, true, false, refl, ap, ◌∙◌, arith}
use Rattle.std.proofs.lemmas.Bool.Decides.{nat_tests}
use Rattle.mil_word.specs.Fields.{address_of, is_mode, is_transmit, is_broadcast, code_of}
use Rattle.mil_mode.specs.Table.{data_word_count}
use Rattle.bench_judge.specs.Clean.{form_number_of}

pub to-all : (c : ℕ) → address_of c ≡ 31 → is_broadcast c ≡ true
to-all c is = ap (λ n. n == 31) is

pub to-one : (c address : ℕ) → address_of c ≡ address → address ≤ 30 → is_broadcast c ≡ false
to-one c address is low = ap (λ n. n == 31) is ∙ below address low
  where
    below : (n : ℕ) → n ≤ 30 → (n == 31) ≡ false
    below n le = grind (arith, nat_tests)

pub number-0 : (c : ℕ) → is_mode c ≡ false → is_transmit c ≡ false → is_broadcast c ≡ false → form_number_of false c ≡ 0
number-0 c m t b = rw (m, t, b) refl

pub number-1 : (c : ℕ) → is_mode c ≡ false → is_transmit c ≡ true → form_number_of false c ≡ 1
number-1 c m t = rw (m, t) refl

pub number-3 : (c : ℕ) → is_mode c ≡ true → is_transmit c ≡ true → is_broadcast c ≡ false → (data_word_count true (code_of c) == 0) ≡ true → form_number_of false c ≡ 3
number-3 c m t b n = rw (m, t, b, n) refl

pub number-4 : (c : ℕ) → is_mode c ≡ true → is_transmit c ≡ true → is_broadcast c ≡ false → (data_word_count true (code_of c) == 0) ≡ false → form_number_of false c ≡ 4
number-4 c m t b n = rw (m, t, b, n) refl

pub number-5 : (c : ℕ) → is_mode c ≡ true → is_transmit c ≡ false → is_broadcast c ≡ false → form_number_of false c ≡ 5
number-5 c m t b = rw (m, t, b) refl

pub number-6 : (c : ℕ) → is_mode c ≡ false → is_transmit c ≡ false → is_broadcast c ≡ true → form_number_of false c ≡ 6
number-6 c m t b = rw (m, t, b) refl

pub number-8 : (c : ℕ) → is_mode c ≡ true → is_transmit c ≡ true → is_broadcast c ≡ true → form_number_of false c ≡ 8
number-8 c m t b = rw (m, t, b) refl

pub number-9 : (c : ℕ) → is_mode c ≡ true → is_transmit c ≡ false → is_broadcast c ≡ true → form_number_of false c ≡ 9
number-9 c m t b = rw (m, t, b) refl
