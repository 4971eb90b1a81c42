-- Where the tokens of a text begin in it (own choice).
use Rattle.std.specs.Prelude.{ℕ, zero, suc, ◌-◌, nat_eq, not, Bool, true, false, if◌then◌else◌, List, [], ◌∷◌}
use Rattle.std.specs.Prelude.{length, drop}
use Rattle.frame_text.specs.Tokens.{is_blank, tokens}

-- a text, or, within a comment, what comes after the comment, from its first token on
unfoldable pub from_token : Bool → List ℕ → List ℕ
from_token comment [] = []
from_token true (b ∷ bs) = from_token (not (nat_eq b 10)) bs
from_token false (b ∷ bs) =
    if is_blank b then from_token false bs
    else if nat_eq b 35 then from_token true bs
    else (b ∷ bs)

abbrev pub first_of : List (List ℕ) → List ℕ
first_of [] = []
first_of (t ∷ ts) = t

-- what comes behind the first token of a text
abbrev pub behind_token : List ℕ → List ℕ
behind_token text = drop (length (first_of (tokens text))) (from_token false text)

-- what comes behind the first tokens of a text, so many of them
abbrev pub behind_tokens : ℕ → List ℕ → List ℕ
behind_tokens zero text = text
behind_tokens (suc n) text = behind_token (behind_tokens n text)

-- the text from the token on with which so many tokens are left, none at its end
abbrev pub last_tokens : ℕ → List ℕ → List ℕ
last_tokens left text = from_token false (behind_tokens (length (tokens text) - left) text)
