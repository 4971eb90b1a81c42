-- The block status word of a recorded message (IRIG 106-17 Chapter 11, MIL-STD-1553 bus data packets, Format 1).
use Rattle.std.specs.Prelude.{ℕ, List, [], ◌∷◌, codes}
use Rattle.mil_status.specs.Status.{Row}

-- bit 13: the message went over the second line
abbrev pub line_b : ℕ
line_b = 8192

-- bit 12: a summary of the errors below
abbrev pub message_error : ℕ
message_error = 4096

-- bit 11: a transfer between terminals
abbrev pub terminal_to_terminal : ℕ
terminal_to_terminal = 2048

-- bit 10: a format error: a word that does not follow the one before at once, where it should
abbrev pub format_error : ℕ
format_error = 1024

-- bit 9: a reply that is missing or late
abbrev pub response_timeout : ℕ
response_timeout = 512

-- bit 5: another number of words than due
abbrev pub word_count_error : ℕ
word_count_error = 32

-- bit 4: a sound word with the wrong sync for its place
abbrev pub sync_type_error : ℕ
sync_type_error = 16

-- bit 3: an unsound word
abbrev pub invalid_word_error : ℕ
invalid_word_error = 8

-- the bits by name
abbrev pub block_bits : List Row
block_bits =
    (codes "line_b", line_b)
    ∷ (codes "message_error", message_error)
    ∷ (codes "terminal_to_terminal", terminal_to_terminal)
    ∷ (codes "format_error", format_error)
    ∷ (codes "response_timeout", response_timeout)
    ∷ (codes "word_count_error", word_count_error)
    ∷ (codes "sync_type_error", sync_type_error)
    ∷ (codes "invalid_word_error", invalid_word_error)
    ∷ []
