-- A wave is made and read bit by bit.
use Rattle.std.proofs.Common.{◌≡◌, ℕ, suc, ◌+◌, ◌*◌, ◌/◌, ◌%◌, ◌^◌, ◌<◌, ◌≤◌, List, [], ◌∷◌, ◌++◌, sum, ap, sym, ◌∙◌, arith, pow_pos}
use Rattle.std.specs.List.{flat_map}
use Rattle.std.proofs.lemmas.Nat.{pow-add, mul-le, mod_below}
use Rattle.std.proofs.lemmas.Nat.Bits.{bit_at-lt}
use Rattle.std.proofs.lemmas.List.Sums.{sum_by-cons}
use Rattle.std.proofs.Math.Nat.{pow-suc}
use Rattle.mil_word.specs.declared.Word.{Word}
use Rattle.mil_word.specs.Wave.{digits, number, sync_halves, pair, wave_of, raw_of}
use Rattle.mil_word.proofs.Digits.{rest, length-rest, number-pair}
use Rattle.mil_word.proofs.WaveLemmas.{wave_is, information, length-information}

sum-first : (x : ℕ) (xs : List ℕ) → sum (x ∷ xs) ≡ x + sum xs
sum-first x xs = sum_by-cons (λ n. n) x xs

rest_more : (k value ones : ℕ) → rest (suc k) value ones ≡ pair (value / 2 ^ k % 2) ++ rest k value (ones + value / 2 ^ k % 2)
unfolding digits
rest_more k value ones =
    let bit = value / 2 ^ k % 2 in
    let same : ones + sum (bit ∷ digits k value) + 1 ≡ ones + bit + sum (digits k value) + 1 = omega (arith, sum-first bit (digits k value)) in
    ap (λ n. pair bit ++ flat_map pair (digits k value ++ n % 2 ∷ [])) same

one_more : (k value ones half_bits : ℕ)
    → half_bits * 2 ^ (2 * suc k + 2) + number (rest (suc k) value ones) ≡ (half_bits * 4 + (value / 2 ^ k % 2 + 1)) * 2 ^ (2 * k + 2) + number (rest k value (ones + value / 2 ^ k % 2))
one_more k value ones half_bits =
    let bit = value / 2 ^ k % 2 in
    let pairs = rest k value (ones + bit) in
    let spelled = rest_more k value ones in
    let first = number-pair bit pairs (bit_at-lt value k) in
    let long = length-rest k value (ones + bit) in
    let two_more : 2 * suc k + 2 ≡ suc (suc (2 * k + 2)) = omega arith in
    let place : 2 ^ (2 * suc k + 2) ≡ 2 ^ (2 * k + 2) * 4 = rw two_more (omega (arith, pow-suc 2 (suc (2 * k + 2)), pow-suc 2 (2 * k + 2))) in
    rw (spelled, first, long, place) (omega arith)

-- what is spelled so far, with one more pair, and the pairs that are left are the whole
pub one_more_of : (p k value ones half_bits bit next whole : ℕ) → p ≡ suc k → bit ≡ value / 2 ^ k % 2 → next ≡ half_bits * 4 + (bit + 1)
    → whole ≡ half_bits * 2 ^ (2 * p + 2) + number (rest p value ones) → whole ≡ next * 2 ^ (2 * k + 2) + number (rest k value (ones + bit))
one_more_of p k value ones half_bits bit next whole at bit_is next_is is =
    rw (next_is, bit_is) (is ∙ ap (λ n. half_bits * 2 ^ (2 * n + 2) + number (rest n value ones)) at ∙ one_more k value ones half_bits)

-- what is spelled so far leaves room for one more pair
pub room : (k half_bits more whole : ℕ) → whole ≡ half_bits * 2 ^ (2 * k + 2) + more → whole < 2 ^ 40 → half_bits < 2 ^ 38
room k half_bits more whole is below =
    let four : 4 ≤ 2 ^ (2 * k + 2) = rw pow-add (omega (arith, pow_pos (2 * k))) in
    omega (arith, mul-le half_bits 4 half_bits (2 ^ (2 * k + 2)) (omega arith) four)

-- before the first pair: what the sync spells and all pairs are the wave
pub first_pair : (word : Word) (half_bits : ℕ) → half_bits ≡ number (sync_halves word.sync) → wave_of word ≡ half_bits * 2 ^ 34 + number (rest 16 word.value 0)
first_pair word half_bits is = wave_is word ∙ ap (λ n. n * 2 ^ 34 + number (rest 16 word.value 0)) (sym is)

last_pair : (value ones : ℕ) → number (rest 0 value ones) ≡ (ones + 1) % 2 + 1
unfolding digits number
last_pair value ones = number-pair ((ones + 0 + 1) % 2) [] (mod_below (ones + 0 + 1) 2 (omega arith)) ∙ omega arith

-- with the pair of the parity the wave is whole
pub whole_wave : (p value ones half_bits whole : ℕ) → p ≤ 0 → whole ≡ half_bits * 2 ^ (2 * p + 2) + number (rest p value ones) → half_bits * 4 + ((ones + 1) % 2 + 1) ≡ whole
whole_wave p value ones half_bits whole none is =
    let at : p ≡ 0 = omega arith in
    let done = is ∙ ap (λ n. half_bits * 2 ^ (2 * n + 2) + number (rest n value ones)) at in
    omega (arith, done, last_pair value ones)

one_more_bit : (k wave raw : ℕ) → raw * 2 ^ suc k + number (information (suc k) wave) ≡ (raw * 2 + wave / 2 ^ (2 * k + 3) % 2) * 2 ^ k + number (information k wave)
unfolding information number
one_more_bit k wave raw =
    let long = length-information k wave in
    rw (long, pow-suc) (omega arith)

pub one_more_bit_of : (p k wave raw bit whole : ℕ) → p ≡ suc k → bit ≡ wave / 2 ^ (2 * k + 3) % 2
    → whole ≡ raw * 2 ^ p + number (information p wave) → whole ≡ (raw * 2 + bit) * 2 ^ k + number (information k wave)
one_more_bit_of p k wave raw bit whole at bit_is is =
    rw bit_is (is ∙ ap (λ n. raw * 2 ^ n + number (information n wave)) at ∙ one_more_bit k wave raw)

pub raw_small : (k raw more whole : ℕ) → whole ≡ raw * 2 ^ k + more → whole < 2 ^ 16 → raw < 2 ^ 16
raw_small k raw more whole is below =
    let one : 1 ≤ 2 ^ k = pow_pos k in
    omega (arith, mul-le raw 1 raw (2 ^ k) (omega arith) one)

pub whole_value : (p raw wave : ℕ) → p ≤ 0 → raw_of wave ≡ raw * 2 ^ p + number (information p wave) → raw_of wave ≡ raw
unfolding information number
whole_value p raw wave none is =
    let at : p ≡ 0 = omega arith in
    is ∙ ap (λ n. raw * 2 ^ n + number (information n wave)) at ∙ omega arith
