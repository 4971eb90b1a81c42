-- Braces, numbers and data words of the grammar of scripts (own choice).
use Rattle.std.specs.Prelude.{◌≡◌, ℕ, ◌≤◌, List, [], ◌∷◌, ◌++◌, Option, Some, None, codes}
use Rattle.frame_text.specs.Reading.{Tokens}
use Rattle.numerals.specs.Numerals.{number_of, data_word_of}

-- tokens in braces
abbrev pub braces : Tokens → Tokens
braces inner = codes "{" ∷ inner ++ codes "}" ∷ []

-- number: a word of one to seven digits
abbrev pub SpellsNumber : List ℕ → ℕ → Type 0
SpellsNumber word n = number_of word ≡ Some n

-- a number from low to high
pub record SpellsWithin (low high : ℕ) (word : List ℕ) (n : ℕ) : Type 0 where
  pub number : SpellsNumber word n
  pub not_under : low ≤ n
  pub not_over : n ≤ high

-- dataword*: each is a word of four hexadecimal digits
pub data SpellDataWords : Tokens → List ℕ → Type 0 where
  none : SpellDataWords [] []
  more : {word : List ℕ} {words : Tokens} {n : ℕ} {ns : List ℕ}
      → data_word_of word ≡ Some n → SpellDataWords words ns
      → SpellDataWords (word ∷ words) (n ∷ ns)

-- words
pub data SpellWords : Tokens → List ℕ → Type 0 where
  bracketed : {words : Tokens} {ns : List ℕ}
      → SpellDataWords words ns
      → SpellWords (codes "[" ∷ words ++ codes "]" ∷ []) ns

-- [ words ]
pub data MaySpellWords : Tokens → Option (List ℕ) → Type 0 where
  none : MaySpellWords [] None
  some : {words : Tokens} {ns : List ℕ} → SpellWords words ns → MaySpellWords words (Some ns)
