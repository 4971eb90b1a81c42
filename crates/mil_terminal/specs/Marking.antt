-- Marks as bits (inside the terminal).
use Rattle.std.specs.Prelude.{ℕ, ◌+◌, ◌-◌, ◌==◌, Bool, slice_index, if◌then◌else◌}
use Rattle.std.specs.Int.{bit_at}
use Rattle.mil_word.specs.Fields.{field_values}
use Rattle.mil_terminal.specs.declared.marks.Marks.{Marks}

-- whether the bit of this direction, subaddress and count is set
unfoldable pub is_set : Marks → Bool → ℕ → ℕ → Bool
is_set marks transmit sub count =
    bit_at (slice_index marks.rows (if transmit then field_values + sub else sub)) (count - 1) == 1

-- whether the bit of this T/R bit and mode code is set, which stands in the row of subaddress 0
unfoldable pub is_mode_set : Marks → Bool → ℕ → Bool
is_mode_set marks transmit code = bit_at (slice_index marks.rows (if transmit then field_values else 0)) code == 1
