-- Bytes as one number, the first one lowest.
use Rattle.std.specs.Prelude.{◌≡◌, ◌⊎◌, ℕ, zero, suc, ◌+◌, ◌-◌, ◌*◌, ◌^◌, ◌<◌, ◌≤◌, List, [], ◌∷◌}

unfoldable pub packed : List ℕ → ℕ
packed [] = 0
packed (byte ∷ bytes) = byte + 256 * packed bytes

-- the digit 0 in eight bytes
abbrev pub eight_noughts : ℕ
eight_noughts = 0x3030303030303030

-- 1 in the first bytes
unfoldable pub ones : ℕ → ℕ
ones zero = 0
ones (suc count) = 1 + 256 * ones count

-- so many noughts stand in front of a number of eight digits, the last of which is none of them
pub record IsLedBy (number noughts : ℕ) : Type 0 where
  pub few : noughts ≤ 7
  pub below : number < 10 ^ (8 - noughts)
  pub first : (noughts ≡ 7) ⊎ (10 ^ (7 - noughts) ≤ number)
