-- The attributes of a setup record (IRIG 106-17 Chapter 9: a name, a colon, a value and a semicolon).
use Rattle.std.specs.Prelude.{ℕ, ◌==◌, ◌||◌, Bool, List, [], ◌∷◌, if◌then◌else◌, take, drop, map}
use Rattle.std.specs.List.{position_or_len}

abbrev pub is_byte : ℕ → ℕ → Bool
is_byte wanted byte = byte == wanted

-- a space, a tab, or the end of a line
abbrev pub is_blank : ℕ → Bool
is_blank byte = byte == 32 || (byte == 9 || (byte == 13 || byte == 10))

-- without what is blank in front
abbrev pub unblanked : List ℕ → List ℕ
unblanked [] = []
unblanked (b ∷ bs) = if is_blank b then unblanked bs else b ∷ bs

-- the pieces of a text that semicolons end
abbrev pub joined : ℕ → List (List ℕ) → List (List ℕ)
joined b [] = (b ∷ []) ∷ []
joined b (p ∷ ps) = (b ∷ p) ∷ ps

abbrev pub pieces : List ℕ → List (List ℕ)
pieces [] = []
pieces (b ∷ bs) = if is_byte 59 b then [] ∷ pieces bs else joined b (pieces bs)

-- the name and the value of one
abbrev pub Attributed : Type 0
Attributed = List ℕ × List ℕ

abbrev pub colon_in : List ℕ → ℕ
colon_in piece = position_or_len (is_byte 58) piece

abbrev pub attribute_of : List ℕ → Attributed
attribute_of piece = (unblanked (take (colon_in piece) piece), drop 1 (drop (colon_in piece) piece))

-- those of a text
abbrev pub attributes : List ℕ → List Attributed
attributes text = map attribute_of (pieces text)
