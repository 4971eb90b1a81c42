-- A message as the standard has it (MIL-STD-1553B 4.3.3.6, with Notice 2).
use Rattle.std.specs.Prelude.{◌≡◌, ℕ, ◌+◌, ◌==◌, Bool, true, false, not, ◌&&◌, ◌||◌, nat_le, nat_lt, if◌then◌else◌}
use Rattle.std.specs.Prelude.{List, [], ◌∷◌, length, Option, Some, None, Result, Ok, Err, unwrap_or}
use Rattle.std.specs.List.{list_all}
use Rattle.std.specs.Str.{bytes_eq}
use Rattle.mil_word.specs.Fields.{has_instrumentation}
use Rattle.mil_word.specs.Fields.{has_bit, address_of, code_of, is_broadcast, is_transmit, is_mode, has_message_error}
use Rattle.mil_word.specs.Fields.{has_busy, most_words}
use Rattle.mil_word.specs.Timing.{least_response, latest_response}
use Rattle.mil_mode.specs.Table.{is_known, is_broadcast_mode, data_word_count}
use Rattle.mil_message.specs.declared.faults.BadMessage.{BadMessage}
use Rattle.mil_message.specs.declared.forms.Due.{Due}
use Rattle.mil_message.specs.declared.forms.Form.{Form}
use Rattle.mil_message.specs.Forms as forms
use Rattle.mil_message.specs.Forms.{replies_due}
use Rattle.mil_message.specs.Parts.{Parts, request_at}
use Rattle.mil_message.specs.Request.{Request}
use Rattle.mil_message.specs.Rules.{checked}
use Rattle.ch11_layout.specs.Stamps.{Recorded}
use Rattle.ch11_layout.specs.BlockStatus.{has_error, has_format_error, has_response_timeout, has_word_count_error}
use Rattle.ch11_layout.specs.BlockStatus.{has_sync_type_error, has_invalid_word_error}
use Rattle.ch11_layout.specs.Layouts.{first_word}
use Rattle.bench_select.specs.Selectors.{second_word}
use Rattle.ch11_layout.specs.Replies.{has_two, statuses, data_words, data_count, gaps}

-- the block status word tells of no error
abbrev pub has_no_error : ℕ → Bool
has_no_error block =
    not (has_error block) && not (has_format_error block) && not (has_response_timeout block)
    && not (has_word_count_error block) && not (has_sync_type_error block) && not (has_invalid_word_error block)

-- a mode command's code is one that the standard assigns, and one that may be sent to all terminals where it is (table
-- I)
abbrev pub may_be_sent : ℕ → Bool
may_be_sent command =
    not (is_mode command)
    || (is_known (is_transmit command) (code_of command)
    && (not (is_broadcast command) || is_broadcast_mode (is_transmit command) (code_of command)))

-- the number of the form whose commands these would be: a mode command's, and a transfer's
abbrev pub mode_form : ℕ → ℕ
mode_form command =
    if is_transmit command
    then (if is_broadcast command then 8 else if data_word_count true (code_of command) == 0 then 3 else 4)
    else (if is_broadcast command then 9 else 5)

abbrev pub transfer_form : ℕ → ℕ
transfer_form command = if is_transmit command then 1 else if is_broadcast command then 6 else 0

abbrev pub form_number_of : Bool → ℕ → ℕ
form_number_of two first =
    if two then (if is_broadcast first then 7 else 2)
    else if is_mode first then mode_form first
    else transfer_form first

-- the controller sends the data words of the forms that have a command to receive and no second command
abbrev pub controller_sends : ℕ → Bool
controller_sends number = number == 0 || number == 5 || number == 6 || number == 9

-- the message as numbers
abbrev pub parts_with : ℕ → Recorded → Parts
parts_with number m = record {
  number = number;
  first = first_word m;
  second = if has_two m then second_word m else 0;
  words = if controller_sends number then data_words m else [];
}

abbrev pub parts_in : Recorded → Parts
parts_in m = parts_with (form_number_of (has_two m) (first_word m)) m

abbrev pub has_parts : Form → Parts → Bool
has_parts form p =
    (forms.form_number form == p.number) && (forms.first_command form == p.first)
    && (unwrap_or (forms.second_command form) 0 == p.second) && bytes_eq (forms.data_words form) p.words

abbrev pub of_these_parts : Parts → Result Form BadMessage → Option Form
of_these_parts p (Err fault) = None
of_these_parts p (Ok form) = if has_parts form p then Some form else None

abbrev pub asked_for : Parts → Option Request → Option Form
asked_for p None = None
asked_for p (Some request) = of_these_parts p (checked request)

-- the one of the ten forms whose message has these parts: all numbers in their ranges, in a transfer equal counts and
-- different ends
unfoldable pub form_with : Parts → Option Form
form_with p = asked_for p (request_at p)

-- a status word has the address that is due, and no bit that is reserved or marks an instruction (4.3.3.5.3)
abbrev pub status_fits : ℕ → ℕ → Bool
status_fits address status =
    (address_of status == address) && not (has_instrumentation status)
    && not (has_bit 7 status) && not (has_bit 6 status) && not (has_bit 5 status)

-- a response time of 4 to 12 µs (4.3.3.8)
abbrev pub is_in_time : ℕ → Bool
is_in_time gap = nat_le least_response gap && nat_le gap latest_response

-- each reply that is due came in time, with its status word, and no other came
abbrev pub replies_fit : List Due → List ℕ → List ℕ → Bool
replies_fit [] [] gaps = list_all (λ gap. gap == 0) gaps
replies_fit [] (status ∷ more) gaps = false
replies_fit (due ∷ others) [] gaps = false
replies_fit (due ∷ others) (status ∷ more) [] = false
replies_fit (due ∷ others) (status ∷ more) (gap ∷ later) =
    status_fits due.address status && is_in_time gap && replies_fit others more later

-- how many data words a terminal is to send: the first reply alone may have some
abbrev pub words_due : List Due → ℕ
words_due [] = 0
words_due (first ∷ others) = first.words

-- the first status word tells that no data words follow it: message error or busy is set (4.3.3.5.3.3, 4.3.3.5.3.8)
abbrev pub sends_no_data : List ℕ → Bool
sends_no_data [] = false
sends_no_data (status ∷ more) = has_message_error status || has_busy status

-- the data words are as many as controller and terminal send, or none where the terminal's status tells so
abbrev pub data_fit : Form → ℕ → List ℕ → Bool
data_fit form count found =
    (count == length (forms.data_words form) + words_due (replies_due form))
    || ((count == 0) && nat_lt 0 (words_due (replies_due form)) && sends_no_data found)

abbrev pub is_sent_as : Option Form → Recorded → Bool
is_sent_as None m = false
is_sent_as (Some form) m = data_fit form (data_count m) (statuses m)
    && replies_fit (replies_due form) (statuses m) (gaps m)

-- at most 32 data words (4.3.3.5.1.5) of a message of one of the ten forms, without an error
unfoldable pub clean : Recorded → Bool
clean m =
    has_no_error m.block && may_be_sent (first_word m)
    && nat_le (data_count m) most_words && is_sent_as (form_with (parts_in m)) m

-- what is known of a message, if anything is: whether it is clean
abbrev pub IsKnown : Option Bool → Recorded → Type 0
IsKnown None m = Unit {0}
IsKnown (Some known) m = known ≡ clean m
