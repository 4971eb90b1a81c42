-- The packet flags of a header (IRIG 106-17 Chapter 11, 11.2.1.1: packet flags).
use Rattle.std.specs.Prelude.{ℕ, ◌==◌, Bool, not, bit_and}
use Rattle.ch11_header.specs.declared.header.Header.{Header}

-- bit 4, overflow: a message is missing
abbrev pub overflow : ℕ
overflow = 0x10

abbrev pub has_overflow : Header → Bool
has_overflow h = not (bit_and h.flags overflow == 0)
