-- Bits of a mask of 32.
use Rattle.std.proofs.Common.{◌≡◌, ◌≢◌, ℕ, zero, suc, ◌+◌, ◌-◌, ◌*◌, ◌/◌, ◌%◌, ◌^◌, ◌<◌, ◌≤◌, refl, sym, ap, ◌∙◌, arith, w32, w64}
use Rattle.std.specs.Prelude.{bit_or, nat_eq, Bool, true, false, ◌&&◌, ◌||◌, Some}
use Rattle.std.specs.Int.{bit_at, trailing_zeros}
use Rattle.std.specs.Int.Count.{trailing_of_zero}
use Rattle.std.proofs.lemmas.Nat.{shr-shr, shr_le}
use Rattle.std.proofs.lemmas.Nat.Bits.{bit_at-zero, bit_at-trailing_zeros, bit_at_ones, bit_at_or, bit_at_set_same}
use Rattle.std.proofs.lemmas.Bool.{eqb-true}
use Rattle.mil_word.specs.declared.Word.{Word}
use Rattle.mil_word.specs.Words.{is_command_sync}
use Rattle.mil_word.specs.Fields.{address_of, is_broadcast}
use Rattle.mil_bus.specs.Index.{is_command_to}

bit_at-shifted : (mask from k : ℕ) → from ≤ k → bit_at mask k ≡ bit_at (mask / 2 ^ from) (k - from)
bit_at-shifted mask from k le =
    let e : k ≡ from + (k - from) = omega arith in
    ap (λ n. mask / 2 ^ n % 2) e ∙ ap (λ x. x % 2) (sym (shr-shr mask from (k - from)))

-- below the lowest bit that is set from a place on, and from that place on, no bit is set
pub clear_between : (mask from : ℕ) → mask < 2 ^ 32 → (k : ℕ) → from ≤ k → k < from + trailing_zeros w64 (mask / 2 ^ from) → bit_at mask k ≡ 0
clear_between mask from small k le lt = bit_at-shifted mask from k le ∙ go (mask / 2 ^ from) refl
  where
    go : (rest : ℕ) → mask / 2 ^ from ≡ rest → bit_at (mask / 2 ^ from) (k - from) ≡ 0
    go zero is = ap (λ x. bit_at x (k - from)) is ∙ bit_at-zero (k - from)
    go (suc rest) is =
        let pos : 0 < mask / 2 ^ from = omega arith in
        let fits : mask / 2 ^ from < 2 ^ 64 = omega (arith, shr_le mask from) in
        (bit_at-trailing_zeros w64 (mask / 2 ^ from) pos fits).2 (k - from) (omega arith)

-- at that place it is set
pub set_there : (mask from : ℕ) → mask < 2 ^ 32 → from + trailing_zeros w64 (mask / 2 ^ from) < 32 → bit_at mask (from + trailing_zeros w64 (mask / 2 ^ from)) ≡ 1
set_there mask from small within =
    let shifted : from + trailing_zeros w64 (mask / 2 ^ from) - from ≡ trailing_zeros w64 (mask / 2 ^ from) = omega arith in
    bit_at-shifted mask from (from + trailing_zeros w64 (mask / 2 ^ from)) (omega arith) ∙ ap (bit_at (mask / 2 ^ from)) shifted ∙ go (mask / 2 ^ from) refl
  where
    go : (rest : ℕ) → mask / 2 ^ from ≡ rest → bit_at (mask / 2 ^ from) (trailing_zeros w64 (mask / 2 ^ from)) ≡ 1
    go zero is =
        let none : trailing_zeros w64 (mask / 2 ^ from) ≡ 64 = ap (trailing_zeros w64) is ∙ trailing_of_zero 64 in
        absurd (omega (arith, none, within))
    go (suc rest) is =
        let pos : 0 < mask / 2 ^ from = omega arith in
        let fits : mask / 2 ^ from < 2 ^ 64 = omega (arith, shr_le mask from) in
        (bit_at-trailing_zeros w64 (mask / 2 ^ from) pos fits).1

-- in a mask of ones no bit is clear
pub all_set : (k : ℕ) → k < 32 → bit_at 4294967295 k ≢ 0
all_set k lt clear = absurd (omega (arith, clear, bit_at_ones 32 k lt))

-- with one more bit set, a bit that is clear was clear, and is not that one
pub clear_before : (mask place k : ℕ) → bit_at (bit_or mask (1 * 2 ^ place % 4294967296)) k ≡ 0 → bit_at mask k ≡ 0
clear_before mask place k clear = omega (arith, clear, bit_at_or mask (1 * 2 ^ place % 4294967296) k)

pub clear_apart : (mask place k : ℕ) → place < 32 → bit_at (bit_or mask (1 * 2 ^ place % 4294967296)) k ≡ 0 → place ≢ k
clear_apart mask place k within clear same =
    let set : bit_at (bit_or mask (1 * 2 ^ place % 4294967296)) place ≡ 1 = bit_at_set_same w32 mask place within in
    let here : bit_at (bit_or mask (1 * 2 ^ place % 4294967296)) place ≡ 0 = ap (λ n. bit_at (bit_or mask (1 * 2 ^ place % 4294967296)) n) same ∙ clear in
    absurd (omega (arith, set, here))

-- a command to one other terminal
pub commands_other : (word : Word) (own : ℕ) → is_broadcast word.value ≡ false → address_of word.value ≢ own → is_command_to own (Some word) ≡ false
commands_other word own alone other = rw alone (go (nat_eq (address_of word.value) own) (is_command_sync word.sync) refl)
  where
    go : (b sync : Bool) → nat_eq (address_of word.value) own ≡ b → (sync && (b || false)) ≡ false
    go true sync is = absurd (other (eqb-true (address_of word.value) own is))
    go false true is = refl
    go false false is = refl
