-- The words of a recorded message, read from its bytes.
use Rattle.std.proofs.Common.{◌≡◌, ℕ, zero, suc, ◌+◌, ◌*◌, ◌/◌, ◌%◌, ◌^◌, ◌<◌, List, [], ◌∷◌, length, get_or, refl, arith, true, false, slice_index}
use Rattle.std.specs.Prelude.{nat_lt, if◌then◌else◌, Bool}
use Rattle.std.specs.List.{flat_map}
use Rattle.std.proofs.lemmas.Bool.Decides.{nat_tests}
use Rattle.byteorder.specs.Endian.{little_bytes}
use Rattle.ch11_layout.specs.Layouts.{word_of}
use Rattle.judge_laws.proofs.Words.{AreSmall}

pub bytes-long : (ws : List ℕ) → length (flat_map (little_bytes 2) ws) ≡ 2 * length ws
bytes-long [] = refl
bytes-long (w ∷ ws) = omega (arith, bytes-long ws)

both-bytes : (w : ℕ) → w < 2 ^ 16 → w % 256 + 256 * (w / 256 ^ 1 % 256) ≡ w
both-bytes w small = omega (arith, small)

two-places : (ws : List ℕ) (k i j : ℕ) → i ≡ 2 * k → j ≡ 2 * k + 1 → k < length ws → AreSmall ws
    → slice_index (flat_map (little_bytes 2) ws) i + 256 * slice_index (flat_map (little_bytes 2) ws) j ≡ get_or ws k 0
two-places [] k i j first second lt small = absurd (omega (arith, lt))
two-places (w ∷ ws) zero i j first second lt small =
    let low : i ≡ 0 = omega (arith, first) in
    let high : j ≡ 1 = omega (arith, second) in
    rw (low, high) (both-bytes w small.0)
two-places (w ∷ ws) (suc k) i j first second lt small =
    let low : i ≡ suc (suc (2 * k)) = omega (arith, first) in
    let high : j ≡ suc (suc (2 * k + 1)) = omega (arith, second) in
    rw (low, high) (two-places ws k (2 * k) (2 * k + 1) refl refl (omega (arith, lt)) small.1)

pub word-read : (ws : List ℕ) (k : ℕ) → k < length ws → AreSmall ws → word_of (flat_map (little_bytes 2) ws) k ≡ get_or ws k 0
word-read ws k lt small =
    let bytes = flat_map (little_bytes 2) ws in
    within (nat_lt (2 * k + 1) (length bytes)) (slice_index bytes (2 * k) + 256 * slice_index bytes (2 * k + 1)) (get_or ws k 0) (long (length bytes) (bytes-long ws)) (two-places ws k (2 * k) (2 * k + 1) refl refl lt small)
  where
    long : (n : ℕ) → n ≡ 2 * length ws → nat_lt (2 * k + 1) n ≡ true
    long n is = grind (arith, nat_tests, is, lt)

    within : (b : Bool) (x y : ℕ) → b ≡ true → x ≡ y → (if b then x else 0) ≡ y
    within true x y here is = is
    within false x y here is = cc
