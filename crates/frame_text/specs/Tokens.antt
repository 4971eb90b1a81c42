-- The tokens of a text (own choice): a token is the list of its bytes.
use Rattle.std.specs.Prelude.{◌≡◌, ℕ, nat_eq, nat_le, Bool, true, false, ◌&&◌, ◌||◌, if◌then◌else◌, List, [], ◌∷◌}

-- a letter, a digit or _
abbrev pub in_word : ℕ → Bool
in_word b = (nat_le 48 b && nat_le b 57) || (nat_le 65 b && nat_le b 90) || nat_eq b 95 || (nat_le 97 b && nat_le b 122)

-- space, tab, CR, LF
abbrev pub is_blank : ℕ → Bool
is_blank b = nat_eq b 32 || nat_eq b 9 || nat_eq b 13 || nat_eq b 10

-- whether a word goes on here
abbrev pub goes_on : List ℕ → Bool
goes_on [] = false
goes_on (b ∷ bs) = in_word b

-- a byte before the first token
abbrev pub glued : ℕ → List (List ℕ) → List (List ℕ)
glued b [] = (b ∷ []) ∷ []
glued b (t ∷ ts) = (b ∷ t) ∷ ts

-- The tokens of a text, or, within a comment, those after the comment: spaces part them, # begins a comment up to LF, a
-- word is a longest run of letters, digits and _, and every other byte is a token by itself.
unfoldable pub lex : Bool → List ℕ → List (List ℕ)
lex comment [] = []
lex true (b ∷ bs) = if nat_eq b 10 then lex false bs else lex true bs
lex false (b ∷ bs) =
    if is_blank b then lex false bs
    else if nat_eq b 35 then lex true bs
    else if in_word b && goes_on bs then glued b (lex false bs)
    else ((b ∷ []) ∷ lex false bs)

abbrev pub tokens : List ℕ → List (List ℕ)
tokens text = lex false text

-- a text that is at its end, or at its first token
abbrev pub BeginsToken : List ℕ → Type 0
BeginsToken [] = Unit {0}
BeginsToken (b ∷ bs) = (is_blank b ≡ false) × (nat_eq b 35 ≡ false)
