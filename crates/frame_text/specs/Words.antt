-- Numbers, periods and data words.
use Rattle.std.specs.Prelude.{ℕ, ◌/◌, ◌%◌, nat_eq, nat_le, ◌&&◌, if◌then◌else◌, List, [], ◌∷◌, take, Option, Some, None}
use Rattle.std.specs.Prelude.{Result, Ok, codes}
use Rattle.numerals.specs.Numerals.{number_of, data_word_of}
use Rattle.frame_text.specs.Reading.{Tokens, Failure, fails, TokenReading, ◌>>=◌, same_bytes, is_word, misplaced, past}
use Rattle.frame_text.specs.declared.faults.Cause.{Cause}
use Rattle.frame_text.specs.declared.faults.Cause.TheVariants as cause

-- the fault of a token that does not spell what it should: a word is a wrong number, and any other may not stand there
abbrev pub unspelled : List ℕ → Cause
unspelled w = if is_word w then cause.Number else misplaced w

-- what a token spells, in front of others
abbrev pub spelled : List ℕ → Tokens → Option ℕ → Result ℕ Failure
spelled w ts (Some n) = Ok n
spelled w ts None = fails (unspelled w) (w ∷ ts)

-- a number
unfoldable pub number_at : Tokens → TokenReading ℕ
number_at [] = fails cause.End []
number_at (w ∷ ts) = spelled w ts (number_of w) >>= (λ n. Ok (n, ts))

-- a number from low to high
unfoldable pub number_within : ℕ → ℕ → Tokens → TokenReading ℕ
number_within low high ts =
    number_at ts >>= (λ n. if nat_le low n.0 && nat_le n.0 high then Ok n else fails cause.Range ts)

-- a period in hundreds of µs, of its number of µs, which is the first of these tokens
abbrev pub hundreds_of : Tokens → ℕ × Tokens → TokenReading ℕ
hundreds_of ts n = if nat_eq (n.0 % 100) 0 then Ok (n.0 / 100, n.1) else fails cause.Range ts

-- a period: a number of µs, a multiple of 100 from 100 to 6,553,500
unfoldable pub period_at : Tokens → TokenReading ℕ
period_at ts = number_within 100 6553500 ts >>= (λ n. hundreds_of ts n)

-- data words up to the closing bracket
unfoldable pub words_at : Tokens → TokenReading (List ℕ)
words_at [] = fails cause.End []
words_at (w ∷ ts) =
    if same_bytes w (codes "]") then Ok ([], ts)
    else (spelled w ts (data_word_of w) >>= (λ n. words_at ts >>= (λ ns. Ok (n ∷ ns.0, ns.1))))

-- the first 33 words: a message with more is refused as one with 33 is
abbrev pub counted : TokenReading (List ℕ) → TokenReading (List ℕ)
counted words = words >>= (λ ns. Ok (take 33 ns.0, ns.1))

-- data words in their brackets
unfoldable pub bracketed_at : Tokens → TokenReading (List ℕ)
bracketed_at ts = past (codes "[") ts >>= (λ us. counted (words_at us))

-- data words in their brackets, where a bracket opens here
unfoldable pub optional_at : Tokens → TokenReading (Option (List ℕ))
optional_at [] = Ok (None, [])
optional_at (w ∷ ts) =
    if same_bytes w (codes "[") then (counted (words_at ts) >>= (λ ns. Ok (Some ns.0, ns.1))) else Ok (None, w ∷ ts)
