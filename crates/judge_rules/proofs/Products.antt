-- Powers and products that stay small.
use Rattle.std.proofs.Common.{ℕ, ◌*◌, ◌^◌, ◌<◌, ◌≤◌, arith}
use Rattle.std.proofs.Math.Nat.{mul-le-mul, pow-le-pow_right}

pub ten_to : (k : ℕ) → k ≤ 7 → 10 ^ k ≤ 10000000
ten_to k few = pow-le-pow_right {n = 10} (omega arith) {i = k} {j = 7} few

sixteen_to : (k : ℕ) → k ≤ 7 → 16 ^ k ≤ 268435456
sixteen_to k few = pow-le-pow_right {n = 16} (omega arith) {i = k} {j = 7} few

pub decimal_product : (n k s : ℕ) → k ≤ 7 → n < 16 ^ k → s ≤ 10000000 → n * s < 4503599627370496
decimal_product n k s few small unit =
    let most = mul-le-mul {n₁ = n} {m₁ = s} {n₂ = 268435456} {m₂ = 10000000} (omega (arith, small, sixteen_to k few)) unit in omega (arith, most)

pub whole_product : (n s : ℕ) → n < 1099511627776 → s ≤ 10000000 → n * s ≤ 10995116277760000000
whole_product n s small unit = mul-le-mul {n₁ = n} {m₁ = s} {n₂ = 1099511627776} {m₂ = 10000000} (omega (arith, small)) unit
