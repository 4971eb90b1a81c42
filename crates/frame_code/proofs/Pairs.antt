-- Numbers of two bytes.
use Rattle.std.proofs.Common.{◌≡◌, ℕ, ◌+◌, ◌*◌, ◌/◌, ◌%◌, ◌<◌, List, ◌∷◌, ◌++◌, ap₂, arith}
use Rattle.frame_code.specs.Bytes.{two_bytes}

pub pair_spelled : (low high : ℕ) (rest : List ℕ) (n : ℕ) → low < 256 → n ≡ low + 256 * high → low ∷ high ∷ rest ≡ two_bytes n ++ rest
pair_spelled low high rest n h e =
    let a : low ≡ n % 256 = omega arith in
    let b : high ≡ n / 256 = omega arith in
    ap₂ (λ x y. x ∷ y ∷ rest) a b
