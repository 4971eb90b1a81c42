-- Placed actions whose numbers never fall.
use Rattle.std.specs.Prelude.{◌≡◌, ℕ, ◌<◌, ◌≤◌, List, length}
use Rattle.std.specs.List.{AllWithin, insert}
use Rattle.std.specs.List.Sorted.{IsNonDecreasingBy}
use Rattle.bc_machine.specs.declared.placed.Placed.{Placed}

abbrev pub IsRising : List Placed → Type 0
IsRising placed = IsNonDecreasingBy (λ (p : Placed). p.number) placed

-- the actions before a place have numbers up to one, and those from there on have numbers above it
pub record IsParted (number place : ℕ) (placed : List Placed) : Type 0 where
  pub before : AllWithin (λ (p : Placed). p.number ≤ number) placed 0 place
  pub behind : AllWithin (λ (p : Placed). number < p.number) placed place (length placed)

-- an action was put behind those with numbers up to its own
pub record IsPutIn (one : Placed) (old new : List Placed) : Type 0 where
  pub place : ℕ
  pub parted : IsParted one.number place old
  pub is : new ≡ insert old place one
