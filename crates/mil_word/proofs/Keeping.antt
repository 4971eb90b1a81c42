-- A wave that is kept, and its half bits.
use Rattle.std.proofs.Common.{◌≡◌, ℕ, ◌+◌, ◌-◌, ◌/◌, ◌%◌, ◌<◌, ◌^◌, refl, ap, ◌∙◌, arith}
use Rattle.std.specs.Prelude.{Bool, true, false, nat_lt}
use Rattle.std.proofs.lemmas.Bool.Decides.{nat_tests}
use Rattle.mil_word.specs.declared.Sync.{Sync}
use Rattle.mil_word.specs.declared.Sync.TheVariants.{CommandSync, DataSync}
use Rattle.mil_word.specs.declared.Word.{Word}
use Rattle.mil_word.specs.Wave.{wave_of, raw_of}
use Rattle.mil_word.specs.Kept.{word_number, word_at, half_bits_if, half_bits_in, IsKept}
use Rattle.mil_word.proofs.WaveLemmas.{raw_of-wave, wave_below}
use Rattle.mil_word.proofs.Reading.{word_of-wave}

-- a word is read back from its number
at_number : (s : Sync) (value : ℕ) → value < 2 ^ 16 → (let w : Word = record { sync = s; value = value } in word_at (2 ^ 40 + word_number w - 2 ^ 40) ≡ w)
at_number DataSync value small =
    let whole : 2 ^ 40 + value - 2 ^ 40 ≡ value = omega arith in
    let high : value / 2 ^ 16 ≡ 0 = omega arith in
    let low : value % 2 ^ 16 ≡ value = omega arith in
    rw (whole, high, low) refl
at_number CommandSync value small =
    let whole : 2 ^ 40 + (2 ^ 16 + value) - 2 ^ 40 ≡ 2 ^ 16 + value = omega arith in
    let high : (2 ^ 16 + value) / 2 ^ 16 ≡ 1 = omega arith in
    let low : (2 ^ 16 + value) % 2 ^ 16 ≡ value = omega arith in
    rw (whole, high, low) refl

pub word_back : (w : Word) → w.value < 2 ^ 16 → word_at (2 ^ 40 + word_number w - 2 ^ 40) ≡ w
word_back w small = at_number w.sync w.value small

is_above : (n : ℕ) → nat_lt (2 ^ 40 + n) (2 ^ 40) ≡ false
is_above n = grind (arith, nat_tests)

-- a sound wave is kept as its word
pub keeps_word : (w : Word) → w.value < 2 ^ 16 → IsKept (2 ^ 40 + word_number w)
keeps_word w small =
    let back = word_back w small in
    rw (is_above (word_number w), back) (word_of-wave w small, ap (λ (v : Word). 2 ^ 40 + word_number v) back)

small_if : (b : Bool) (kept : ℕ) → nat_lt kept (2 ^ 40) ≡ b → half_bits_if b kept < 2 ^ 40
small_if true kept below = grind (arith, nat_tests)
small_if false kept above = wave_below (word_at (kept - 2 ^ 40))

pub small_kept : (kept : ℕ) → half_bits_in kept < 2 ^ 40
small_kept kept = small_if (nat_lt kept (2 ^ 40)) kept refl

-- the information bits of a sound wave are those of its word
pub raw_kept : (wave : ℕ) (word : Word) → wave ≡ wave_of word → word.value < 2 ^ 16 → raw_of wave ≡ word.value
raw_kept wave word is small = ap raw_of is ∙ raw_of-wave word small
