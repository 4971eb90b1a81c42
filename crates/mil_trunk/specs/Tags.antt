-- Sets of tags, and the bounds of tags.
use Rattle.std.specs.Prelude.{◌≡◌, ◌==◌, ℕ, suc, ◌+◌, ◌-◌, ◌^◌, Bool, true, cond, List, [], ◌∷◌, slice_index_or, bit_or}
use Rattle.std.specs.Prelude.{bit_xor}
use Rattle.std.specs.Int.{bit_at}

-- A set of tags is a number: tag t is in the set where bit t is 1.
unfoldable pub has : ℕ → ℕ → Bool
has tags t = bit_at tags t == 1

-- the tags 0 to 63
unfoldable pub all_tags : ℕ
all_tags = 2 ^ 64 - 1

-- the tags of either set
unfoldable pub union : ℕ → ℕ → ℕ
union a b = bit_or a b

-- the tags of the first set that are not in the second
unfoldable pub minus : ℕ → ℕ → ℕ
minus a b = bit_xor (bit_or a b) b

-- each tag of the second set is in the first
abbrev pub Includes : ℕ → ℕ → Type 0
Includes tags part = (t : ℕ) → has part t ≡ true → has tags t ≡ true

-- the bound of a tag: its place in the list, and 0 where the list ends before
abbrev pub bound_of : List ℕ → ℕ → ℕ
bound_of bounds t = slice_index_or bounds t 0

-- the bounds of the tags that are not in the set, added up, where the list begins with the bound of `first`
unfoldable pub bounds_outside_from : ℕ → ℕ → List ℕ → ℕ
bounds_outside_from first tags [] = 0
bounds_outside_from first tags (b ∷ bs) = cond (has tags first) 0 b + bounds_outside_from (suc first) tags bs

-- the bounds of the tags that are not in the set, added up
abbrev pub bounds_outside : ℕ → List ℕ → ℕ
bounds_outside tags bounds = bounds_outside_from 0 tags bounds
