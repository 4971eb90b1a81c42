-- The bus words of a message (IRIG 106-17 Chapter 11, MIL-STD-1553 bus data packets, Format 1): two bytes each.
use Rattle.std.specs.Prelude.{ℕ, ◌+◌, ◌*◌, ◌/◌, nat_lt, if◌then◌else◌, List, length, slice_index}
use Rattle.ch11_f1.specs.BodyReading.{Message}

-- how many whole words a message has
abbrev pub size_of : Message → ℕ
size_of m = length m.bytes / 2

-- the word at a place, counted from 0, the low byte first; 0 past the end
abbrev pub word_of : List ℕ → ℕ → ℕ
word_of bytes place =
    if nat_lt (2 * place + 1) (length bytes)
    then slice_index bytes (2 * place) + 256 * slice_index bytes (2 * place + 1) else 0
