-- The columns of an export for data frames behind those that say when a message was (own choice): one value a column,
-- and of each message as many.
use Rattle.std.specs.Prelude.{ℕ, zero, suc, ◌+◌, ◌-◌, ◌/◌, ◌%◌, ◌^◌, ◌==◌, Bool, false, not, ◌&&◌, ◌||◌, nat_lt}
use Rattle.std.specs.Prelude.{if◌then◌else◌, List, [], ◌∷◌, ◌++◌, Option, Some, None, codes, decimal}
use Rattle.mil_word.specs.Fields.{has_bit, is_transmit, most_words}
use Rattle.ch11_layout.specs.Stamps.{Recorded}
use Rattle.ch11_layout.specs.BlockStatus.{has_error, has_format_error, has_response_timeout, has_word_count_error}
use Rattle.ch11_layout.specs.BlockStatus.{has_sync_type_error, has_invalid_word_error}
use Rattle.ch11_layout.specs.Layouts.{size_of, word_of, is_between, first_word, first_gap, second_gap, commands_in}
use Rattle.ch11_layout.specs.Layouts.{data_start, data_end}
use Rattle.bench_dump.specs.DumpText.{word_digits}
use Rattle.bench_export.specs.Rows.{gap_text, message_line_text, form_text, called_fields}

-- so many decimal digits of a number
unfoldable pub digits_of : ℕ → ℕ → List ℕ
digits_of zero value = []
digits_of (suc count) value = digits_of count (value / 10) ++ (48 + value % 10) ∷ []

-- ticks of 0.1 µs as seconds
abbrev pub seconds_text : ℕ → List ℕ
seconds_text ticks = decimal (ticks / 10 ^ 7) ++ (46 ∷ digits_of 7 (ticks % 10 ^ 7))

abbrev pub prefix_text : Bool → List ℕ
prefix_text prefixed = if prefixed then codes "0x" else []

-- a word as four hexadecimal digits, behind 0x where it is asked for
unfoldable pub word_text : Bool → ℕ → List ℕ
word_text prefixed word = prefix_text prefixed ++ word_digits word

abbrev pub word_if : Bool → Option ℕ → List ℕ
word_if prefixed None = []
word_if prefixed (Some word) = word_text prefixed word

-- the status word of the first reply, and that of the second, which only a transfer has: in front of the data words
-- stands that of their sender, behind them that of their receiver (MIL-STD-1553B 4.3.3.6)
abbrev pub first_status : Recorded → Option ℕ
first_status m =
    if nat_lt (commands_in m) (data_start m) then Some (word_of m.bytes (commands_in m))
    else if not (is_between m) && nat_lt (data_end m) (size_of m) then Some (word_of m.bytes (data_end m))
    else None

abbrev pub second_status : Recorded → Option ℕ
second_status m =
    if is_between m && nat_lt (data_end m) (size_of m) then Some (word_of m.bytes (data_end m)) else None

-- the T/R bit of the first command (4.3.3.5.1.3)
abbrev pub direction_text : Recorded → List ℕ
direction_text m =
    if commands_in m == 0 then []
    else if is_transmit (first_word m) then codes "T"
    else codes "R"

abbrev pub flag : Bool → List ℕ
flag set = if set then codes "1" else codes "0"

abbrev pub has_if : Option ℕ → ℕ → Bool
has_if None place = false
has_if (Some word) place = has_bit place word

-- whether a bit is set in one of the status words; nothing where there is none
abbrev pub status_flag : Option ℕ → Option ℕ → ℕ → List ℕ
status_flag None None place = []
status_flag (Some word) second place = flag (has_bit place word || has_if second place)
status_flag None (Some word) place = flag (has_bit place word)

-- the bits of the status words (4.3.3.5.3)
abbrev pub status_flags : Option ℕ → Option ℕ → List (List ℕ)
status_flags first second =
    status_flag first second 10 ∷ status_flag first second 9 ∷ status_flag first second 8 ∷ status_flag first second 4
    ∷ status_flag first second 3 ∷ status_flag first second 2 ∷ status_flag first second 1
    ∷ status_flag first second 0 ∷ []

-- the errors of the block status word (IRIG 106-17 Chapter 11)
abbrev pub error_flags : ℕ → List (List ℕ)
error_flags block =
    flag (has_error block) ∷ flag (has_format_error block) ∷ flag (has_response_timeout block)
    ∷ flag (has_word_count_error block) ∷ flag (has_sync_type_error block) ∷ flag (has_invalid_word_error block) ∷ []

-- the data word at a place of the data words
abbrev pub data_word : Recorded → ℕ → Option ℕ
data_word m place = if nat_lt place (data_end m - data_start m) then Some (word_of m.bytes (data_start m + place))
    else None

abbrev pub data_field : Bool → Recorded → ℕ → List ℕ
data_field prefixed m place = word_if prefixed (data_word m place)

-- the columns of the first so many data words
unfoldable pub data_fields : ℕ → Bool → Recorded → List (List ℕ)
data_fields zero prefixed m = []
data_fields (suc place) prefixed m = data_fields place prefixed m ++ data_field prefixed m place ∷ []

-- the names of the columns of so many data words
unfoldable pub data_names : ℕ → List (List ℕ)
data_names zero = []
data_names (suc place) = data_names place ++ (codes "word" ++ decimal (place + 1)) ∷ []

-- how it was sent; what was answered
abbrev pub sent_columns : Recorded → List (List ℕ)
sent_columns m = message_line_text m ∷ form_text m ∷ direction_text m ∷ []

abbrev pub answered_columns : Bool → Recorded → List (List ℕ)
answered_columns prefixed m =
    gap_text (first_gap m) ∷ gap_text (second_gap m) ∷ word_if prefixed (first_status m)
    ∷ word_if prefixed (second_status m) ∷ []

-- the bits, and the data words
abbrev pub carried_columns : Bool → Recorded → List (List ℕ)
carried_columns prefixed m =
    status_flags (first_status m) (second_status m)
    ++ (error_flags m.block ++ (decimal (data_end m - data_start m) ∷ data_fields most_words prefixed m))

-- all these columns
abbrev pub frame_row : Bool → Recorded → List (List ℕ)
frame_row prefixed m =
    sent_columns m ++ (called_fields m ++ (answered_columns prefixed m ++ carried_columns prefixed m))

-- the names of the columns
abbrev pub sent_names : List (List ℕ)
sent_names = codes "line" ∷ codes "form" ∷ codes "tr" ∷ []

abbrev pub called_names : List (List ℕ)
called_names =
    codes "terminal" ∷ codes "subaddress" ∷ codes "count" ∷ codes "mode_code" ∷ codes "sender"
    ∷ codes "sender_subaddress" ∷ []

abbrev pub answered_names : List (List ℕ)
answered_names = codes "gap1_us" ∷ codes "gap2_us" ∷ codes "status1" ∷ codes "status2" ∷ []

abbrev pub status_names : List (List ℕ)
status_names =
    codes "status_message_error" ∷ codes "status_instrumentation" ∷ codes "status_service_request"
    ∷ codes "status_broadcast"
    ∷ codes "status_busy" ∷ codes "status_subsystem" ∷ codes "status_control" ∷ codes "status_terminal" ∷ []

abbrev pub error_names : List (List ℕ)
error_names =
    codes "message_error" ∷ codes "format_error" ∷ codes "response_timeout" ∷ codes "word_count_error"
    ∷ codes "sync_type_error" ∷ codes "invalid_word_error" ∷ []

abbrev pub carried_names : List (List ℕ)
carried_names = status_names ++ (error_names ++ (codes "data_words" ∷ data_names most_words))

abbrev pub frame_names : List (List ℕ)
frame_names = sent_names ++ (called_names ++ (answered_names ++ carried_names))
