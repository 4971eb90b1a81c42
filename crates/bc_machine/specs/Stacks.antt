-- A stack in an array, as a list.
use Rattle.std.specs.Prelude.{ℕ, List, take, reverse}

-- the first slots of the array, the last of them first
abbrev pub stacked : {T : Type 0} → List T → ℕ → List T
stacked slots depth = reverse (take depth slots)
