-- What the digits behind the point of a value say, read back (own choice).
use Rattle.std.specs.Prelude.{◌≡◌, ℕ, ◌-◌, ◌*◌, ◌^◌, ◌<◌, ◌≤◌, List, [], ◌∷◌, ◌++◌, length}
use Rattle.std.specs.Str.Parse.{digits_value, AllDigits}
use Rattle.signal_values.specs.Amounts.{unit}
use Rattle.signal_values.specs.Texts.{fraction}

-- decimal digits, at most so many, that are this number where zeros stand in the places that they leave; the last of
-- them is no zero
pub record IsSpelled (places number : ℕ) (text : List ℕ) : Type 0 where
  pub digits : AllDigits 10 text
  pub few : length text ≤ places
  pub value : digits_value 10 text * 10 ^ (places - length text) ≡ number
  pub front : List ℕ
  pub last : ℕ
  pub ends : text ≡ front ++ last ∷ []
  pub some : 48 < last

-- all parts of one, in units of 10^-17
abbrev pub AreSpelled : Type 0
AreSpelled = (part : ℕ) → 0 < part → part < unit → IsSpelled 17 part (fraction 17 part)
