-- The columns of a message in an exported recording behind those that say when it was (own choice), and their names.
use Rattle.std.specs.Prelude.{ℕ, ◌-◌, ◌*◌, ◌/◌, ◌%◌, ◌==◌, Bool, not, ◌&&◌, nat_lt, if◌then◌else◌, List, [], ◌∷◌, ◌++◌}
use Rattle.std.specs.Prelude.{take, drop, codes, decimal}
use Rattle.mil_word.specs.Fields.{has_bit, address_of, sub_of, code_of, count_of, is_mode, is_broadcast, is_transmit}
use Rattle.ch11_layout.specs.Stamps.{Recorded}
use Rattle.ch11_layout.specs.BlockStatus.{is_on_line_b}
use Rattle.ch11_layout.specs.Layouts.{size_of, word_of, first_word, first_gap, second_gap, commands_in, data_start}
use Rattle.ch11_layout.specs.Layouts.{data_end}
use Rattle.bench_dump.specs.DumpText.{bus_words}

-- the names of the columns
abbrev pub first_names : List (List ℕ)
first_names = codes "line" ∷ codes "form" ∷ codes "terminal" ∷ codes "subaddress" ∷ codes "count" ∷ []

abbrev pub other_names : List (List ℕ)
other_names =
    codes "mode_code" ∷ codes "sender" ∷ codes "sender_subaddress" ∷ codes "status_words" ∷ codes "block_status"
    ∷ codes "gap1_us" ∷ codes "gap2_us" ∷ codes "data_words" ∷ []

abbrev pub names : List (List ℕ)
names = first_names ++ other_names

-- ticks of 0.1 µs as microseconds
abbrev pub micros : ℕ → List ℕ
micros ticks = decimal (ticks / 10) ++ (46 ∷ decimal (ticks % 10))

-- a gap in microseconds; nothing where there was no reply
abbrev pub gap_text : ℕ → List ℕ
gap_text gap = if gap == 0 then [] else micros gap

abbrev pub message_line_text : Recorded → List ℕ
message_line_text m = if is_on_line_b m.block then codes "B" else codes "A"

-- the form of a message by its commands (MIL-STD-1553B 4.3.3.6)
abbrev pub form_text : Recorded → List ℕ
form_text m =
    if commands_in m == 0 then []
    else if is_mode (first_word m) then (if is_broadcast (first_word m) then codes "mode broadcast" else codes "mode")
    else if commands_in m == 2 then (if is_broadcast (first_word m) then codes "RT to RTs" else codes "RT to RT")
    else if is_transmit (first_word m) then codes "RT to BC"
    else if is_broadcast (first_word m) then codes "BC to RTs"
    else codes "BC to RT"

-- a number, nothing where there is none
abbrev pub number_if : Bool → ℕ → List ℕ
number_if there number = if there then decimal number else []

-- address, subaddress, data word count and mode code of the first command
abbrev pub fields_of_first : Bool → ℕ → List (List ℕ)
fields_of_first called command =
    number_if called (address_of command) ∷ number_if called (sub_of command)
    ∷ number_if (called && not (is_mode command)) (count_of command)
    ∷ number_if (called && is_mode command) (code_of command) ∷ []

abbrev pub first_fields : Recorded → List (List ℕ)
first_fields m = fields_of_first (nat_lt 0 (commands_in m)) (first_word m)

-- address and subaddress of the second command, which calls the sender
abbrev pub fields_of_second : Bool → ℕ → List (List ℕ)
fields_of_second called command = number_if called (address_of command) ∷ number_if called (sub_of command) ∷ []

abbrev pub second_fields : Recorded → List (List ℕ)
second_fields m = fields_of_second (commands_in m == 2) (word_of m.bytes 1)

-- words as hexadecimal digits with a space between, those of two runs of bytes
abbrev pub words_text : List ℕ → List ℕ → List ℕ
words_text front back = drop 1 (bus_words front ++ bus_words back)

-- the bytes of the words from a place up to another
abbrev pub words_between : ℕ → ℕ → List ℕ → List ℕ
words_between low high bytes = take (2 * (high - low)) (drop (2 * low) bytes)

abbrev pub data_text : Recorded → List ℕ
data_text m = words_text (words_between (data_start m) (data_end m) m.bytes) []

abbrev pub status_text : Recorded → List ℕ
status_text m = words_text (words_between (commands_in m) (data_start m) m.bytes)
    (words_between (data_end m) (size_of m) m.bytes)

-- a bit's name behind a space, where the bit is set
abbrev pub name_if : ℕ → ℕ → List ℕ → List ℕ
name_if block place name = if has_bit place block then 32 ∷ name else []

-- the bits of a block status word by name (IRIG 106-17 Chapter 11)
abbrev pub block_text : ℕ → List ℕ
block_text block =
    drop 1 (
    name_if block 13 (codes "line_b")
    ++ (name_if block 12 (codes "message_error")
    ++ (name_if block 11 (codes "terminal_to_terminal")
    ++ (name_if block 10 (codes "format_error")
    ++ (name_if block 9 (codes "response_timeout")
    ++ (name_if block 5 (codes "word_count_error")
    ++ (name_if block 4 (codes "sync_type_error")
    ++ name_if block 3 (codes "invalid_word_error")))))))
    )

-- how it was sent; whom it calls; what was answered
abbrev pub sent_fields : Recorded → List (List ℕ)
sent_fields m = message_line_text m ∷ form_text m ∷ []

abbrev pub called_fields : Recorded → List (List ℕ)
called_fields m = first_fields m ++ second_fields m

abbrev pub answered_fields : Recorded → List (List ℕ)
answered_fields m =
    status_text m ∷ block_text m.block ∷ gap_text (first_gap m) ∷ gap_text (second_gap m) ∷ data_text m ∷ []

-- all these fields
abbrev pub row_of : Recorded → List (List ℕ)
row_of m = sent_fields m ++ (called_fields m ++ answered_fields m)
