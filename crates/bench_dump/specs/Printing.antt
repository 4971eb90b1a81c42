-- Text on its way to a writer.
use Rattle.std.specs.Prelude.{◌≡◌, ℕ, List, ◌++◌, Option}
use Rattle.std.specs.Io.KnownBytes.{Appends}

-- what a writer got and the text that waits, taken together, grew by these bytes
pub record Carries (got : Option (List ℕ)) (waiting : List ℕ) (gets : Option (List ℕ))
    (waits more : List ℕ) : Type 0 where
  pub sent : List ℕ
  pub taken : Appends got gets sent
  pub kept : sent ++ waits ≡ waiting ++ more
