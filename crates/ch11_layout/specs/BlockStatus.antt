-- The bits of the block status word of a recorded message by name (IRIG 106-17 Chapter 11, MIL-STD-1553 bus data
-- packets, Format 1). Bit 0 is the last one of the word.
use Rattle.std.specs.Prelude.{ℕ, Bool}
use Rattle.mil_word.specs.Fields.{has_bit}

-- bit 13: it was sent on line B
abbrev pub is_on_line_b : ℕ → Bool
is_on_line_b block = has_bit 13 block

-- bit 12: the summary of its errors
abbrev pub has_error : ℕ → Bool
has_error block = has_bit 12 block

-- bit 11: a transfer between terminals, which has two commands
abbrev pub is_transfer : ℕ → Bool
is_transfer block = has_bit 11 block

-- bit 10: a format error
abbrev pub has_format_error : ℕ → Bool
has_format_error block = has_bit 10 block

-- bit 9: no response, or a late one
abbrev pub has_response_timeout : ℕ → Bool
has_response_timeout block = has_bit 9 block

-- bit 5: another number of words than due
abbrev pub has_word_count_error : ℕ → Bool
has_word_count_error block = has_bit 5 block

-- bit 4: a sound word with the wrong sync for its place
abbrev pub has_sync_type_error : ℕ → Bool
has_sync_type_error block = has_bit 4 block

-- bit 3: an unsound word
abbrev pub has_invalid_word_error : ℕ → Bool
has_invalid_word_error block = has_bit 3 block
