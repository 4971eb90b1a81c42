-- The letter of the bus that a message went over (IRIG 106-17 Chapter 11, block status word, bit 13), as a byte of
-- text.
use Rattle.std.specs.Prelude.{ℕ, if◌then◌else◌}
use Rattle.ch11_layout.specs.Stamps.{Recorded}
use Rattle.ch11_layout.specs.BlockStatus.{is_on_line_b}

abbrev pub letter_a : ℕ
letter_a = 65

abbrev pub letter_b : ℕ
letter_b = 66

abbrev pub letter_of : Recorded → ℕ
letter_of m = if is_on_line_b m.block then letter_b else letter_a
