-- Bytes as lines of pairs (own choice).
use Rattle.std.specs.Prelude.{ℕ, ◌+◌, ◌/◌, ◌%◌, ◌==◌, ◌||◌, if◌then◌else◌, List, [], ◌∷◌, length}
use Rattle.numerals.specs.Numerals.{digit_of}

-- behind a byte: a line end after every sixteenth place and after the last byte, else a space
abbrev pub behind : ℕ → ℕ → ℕ
behind place left = if left == 1 || place % 16 == 15 then 10 else 32

-- the bytes from a place on, each as two digits with what stands behind it
abbrev pub shown_from : ℕ → List ℕ → List ℕ
shown_from place [] = []
shown_from place (byte ∷ bytes) =
    digit_of (byte / 16) ∷ digit_of (byte % 16) ∷ behind place (length bytes + 1) ∷ shown_from (place + 1) bytes

-- the lines that show the bytes
unfoldable pub lines_of : List ℕ → List ℕ
lines_of bytes = shown_from 0 bytes
