-- The status word (MIL-STD-1553B 4.3.3.5.3): the bits that have a meaning, their places and their names.
use Rattle.std.specs.Prelude.{ℕ, ◌+◌, ◌*◌, ◌/◌, ◌%◌, ◌^◌, ◌==◌, List, [], ◌∷◌, Option, Some, None, option_map, codes}
use Rattle.std.specs.Prelude.{if◌then◌else◌, sum, map}
use Rattle.std.specs.Str.{bytes_eq}
use Rattle.mil_status.specs.declared.bit.StatusBit.{StatusBit}
use Rattle.mil_status.specs.declared.bit.StatusBit.TheVariants.{MessageError, Instrumentation, ServiceRequest}
use Rattle.mil_status.specs.declared.bit.StatusBit.TheVariants.{Broadcast, Busy, Subsystem, Control, Terminal}

-- the place of a bit in the word, 0 for the last on the line; the places 7 to 5 between are reserved (4.3.3.5.3.6)
abbrev pub place_of : StatusBit → ℕ
-- message error (4.3.3.5.3.3)
place_of MessageError = 10
-- instrumentation (4.3.3.5.3.4)
place_of Instrumentation = 9
-- service request (4.3.3.5.3.5)
place_of ServiceRequest = 8
-- broadcast command received (4.3.3.5.3.7)
place_of Broadcast = 4
-- busy (4.3.3.5.3.8)
place_of Busy = 3
-- subsystem flag (4.3.3.5.3.9)
place_of Subsystem = 2
-- dynamic bus control acceptance (4.3.3.5.3.10)
place_of Control = 1
-- terminal flag (4.3.3.5.3.11)
place_of Terminal = 0

-- the name of a bit in scripts (own choice)
abbrev pub name_of : StatusBit → List ℕ
name_of MessageError = codes "message_error"
name_of Instrumentation = codes "instrumentation"
name_of ServiceRequest = codes "service_request"
name_of Broadcast = codes "broadcast"
name_of Busy = codes "busy"
name_of Subsystem = codes "subsystem"
name_of Control = codes "control"
name_of Terminal = codes "terminal"

-- the bits that have a meaning, the first on the line first
abbrev pub every_bit : List StatusBit
every_bit = MessageError ∷ Instrumentation ∷ ServiceRequest ∷ Broadcast ∷ Busy ∷ Subsystem ∷ Control ∷ Terminal ∷ []

-- the first of these bits with a name
abbrev pub bit_called : List StatusBit → List ℕ → Option StatusBit
bit_called [] name = None
bit_called (b ∷ bs) name = if bytes_eq name (name_of b) then Some b else bit_called bs name

-- the bit of a name, if it has one
abbrev pub bit_named : List ℕ → Option StatusBit
bit_named name = bit_called every_bit name

-- the first of these bits with a place
abbrev pub bit_placed : List StatusBit → ℕ → Option StatusBit
bit_placed [] place = None
bit_placed (b ∷ bs) place = if place == place_of b then Some b else bit_placed bs place

-- the bit that stands at a place, if one with a meaning does
abbrev pub bit_at : ℕ → Option StatusBit
bit_at place = bit_placed every_bit place

-- a name and the number of its bit alone, which is 2 to the power of its place
abbrev pub Row : Type 0
Row = List ℕ × ℕ

abbrev row_of : StatusBit → Row
row_of b = (name_of b, 2 ^ place_of b)

-- the bits of a status word by name
abbrev pub status_bits : List Row
status_bits = map row_of every_bit

-- the bits of a table, each once
abbrev pub all_of : List Row → ℕ
all_of rows = sum (map (λ row. row.1) rows)

-- the eight bits together
abbrev pub all_status_bits : ℕ
all_status_bits = all_of status_bits

-- the number of the bit of a name alone, if there is one
abbrev pub bit_of_name : List ℕ → Option ℕ
bit_of_name name = option_map (λ b. 2 ^ place_of b) (bit_named name)

-- the bit at a place, as it stands there
abbrev bit_in_place : ℕ → ℕ → ℕ
bit_in_place bits place = bits / 2 ^ place % 2 * 2 ^ place

-- the word of an address and a set of bits: the address in the first five bits (4.3.3.5.3.2), then each bit that has
-- a meaning in its place, the others zero
abbrev pub status_of : ℕ → ℕ → ℕ
status_of address bits =
    address * 2 ^ 11
    + bit_in_place bits 10 + bit_in_place bits 9 + bit_in_place bits 8
    + bit_in_place bits 4 + bit_in_place bits 3 + bit_in_place bits 2 + bit_in_place bits 1 + bit_in_place bits 0
