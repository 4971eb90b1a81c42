-- The words of a text, which spaces alone part (own choice).
use Rattle.std.specs.Prelude.{ℕ, Bool, true, false, ◌==◌, if◌then◌else◌, List, [], ◌∷◌, Option, Some, None}
use Rattle.std.specs.List.{filter, slice_split, before_first, after_first}
use Rattle.std.specs.Str.{bytes_eq}

abbrev pub Text : Type 0
Text = List ℕ

abbrev pub is_space : ℕ → Bool
is_space b = b == 32

abbrev pub has_bytes : Text → Bool
has_bytes [] = false
has_bytes (b ∷ bs) = true

-- what stands between spaces, one or more of which part two words
abbrev pub words : Text → List Text
words text = filter has_bytes (slice_split is_space text)

-- a text from its first word on
abbrev pub from_word : Text → Text
from_word [] = []
from_word (b ∷ bs) = if is_space b then from_word bs else b ∷ bs

-- the first word of a line, and what stands behind the space that ends it
abbrev pub first_word : Text → Text
first_word line = before_first is_space (from_word line)

abbrev pub behind_word : Text → Text
behind_word line = after_first is_space (from_word line)

-- a word that begins with `#`
abbrev pub is_comment : Text → Bool
is_comment [] = false
is_comment (b ∷ bs) = b == 35

-- whether the first of some words is this one
abbrev pub begins_with : Text → List Text → Bool
begins_with keyword [] = false
begins_with keyword (word ∷ rest) = bytes_eq word keyword

-- what stands beside the first of some words that is this one
abbrev pub meaning : {X : Type 0} → List (Text × X) → Text → Option X
meaning [] word = None
meaning ((keyword, x) ∷ rest) word = if bytes_eq word keyword then Some x else meaning rest word
