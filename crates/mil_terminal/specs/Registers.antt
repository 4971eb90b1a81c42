-- What the registers of a terminal hold, as queries on its history.
use Rattle.std.specs.Prelude.{ℕ, Bool, true, false, ◌&&◌, ◌||◌, not, ◌==◌, List, [], ◌∷◌, Option, Some, None, unwrap_or}
use Rattle.std.specs.Prelude.{if◌then◌else◌}
use Rattle.std.specs.Option.{option_map}
use Rattle.std.specs.List.{find, filter_map}
use Rattle.mil_word.specs.declared.Line.{Line}
use Rattle.mil_word.specs.Words.{same_line, same_bool, data_in}
use Rattle.mil_word.specs.Fields.{address_of, is_broadcast, is_transmit, sub_of, code_of, is_mode, is_receive}
use Rattle.mil_mode.specs.Codes.{synchronize, transmit_status_word, initiate_self_test, transmitter_shutdown}
use Rattle.mil_mode.specs.Codes.{override_shutdown, inhibit_terminal_flag, override_inhibit, reset_remote_terminal}
use Rattle.mil_mode.specs.Codes.{synchronize_with_word, transmit_last_command}
use Rattle.mil_terminal.specs.declared.events.Event.{Event}
use Rattle.mil_terminal.specs.declared.events.Event.TheVariants.{Heard, Quiet, Host}
use Rattle.mil_terminal.specs.History.{History, latest_set}
use Rattle.mil_terminal.specs.Host.{told_vector, told_bit, is_busy, self_test, host_bit, is_power_on}
use Rattle.mil_terminal.specs.Windows.{Ended, opening, ended, ended_by}
use Rattle.mil_terminal.specs.Verdicts.{verdict, is_good}

-- of the latest ended window that passes the test, what is asked, and else the first value
abbrev pub latest : {X : Type 0} → ℕ → (Ended → Bool) → (Ended → X) → X → History → X
latest own test asked first h = unwrap_or (option_map asked (find test (ended own h))) first

-- the value of a sound data word
abbrev pub value_of : Event → Option ℕ
value_of (Heard line wave gap) = data_in wave
value_of (Quiet line) = None
value_of (Host action) = None

-- the data words of a window
abbrev pub window_data : Ended → List ℕ
window_data e = filter_map value_of e.window.items

-- a mode command with this T/R bit and mode code (4.3.3.5.1.7)
abbrev pub has_mode_code : Bool → ℕ → ℕ → Bool
has_mode_code transmit code c = is_mode c && same_bool (is_transmit c) transmit && code_of c == code

-- a good window of a mode command
abbrev pub is_good_mode : ℕ → Bool → ℕ → Ended → Bool
is_good_mode own transmit code e = is_good (verdict own e) && has_mode_code transmit code e.window.command

-- a receive command at a subaddress, to all terminals or to one
abbrev pub is_receive_at : Bool → ℕ → ℕ → Bool
is_receive_at to_all sub c = is_receive c && sub_of c == sub && same_bool (is_broadcast c) to_all

-- a good window of a receive command at a subaddress that ended while the terminal was not busy (4.3.3.5.3.8)
abbrev pub is_good_receive : ℕ → Bool → ℕ → Ended → Bool
is_good_receive own to_all sub e =
    is_good (verdict own e) && is_receive_at to_all sub e.window.command && not (is_busy e.before)

-- the words of the latest receive command to this terminal at the subaddress
unfoldable pub received : ℕ → ℕ → History → List ℕ
received own sub h = latest own (is_good_receive own false sub) window_data [] h

-- the words of the latest receive command to all terminals there (Notice 2: kept apart)
unfoldable pub received_from_all : ℕ → ℕ → History → List ℕ
received_from_all own sub h = latest own (is_good_receive own true sub) window_data [] h

abbrev pub first_or_zero : List ℕ → ℕ
first_or_zero [] = 0
first_or_zero (w ∷ ws) = w

-- the word of the latest synchronize with data word (17), and 0 after synchronize (1) and reset (8)
unfoldable pub sync_word : ℕ → History → ℕ
sync_word own h =
    latest own (λ e. is_good_mode own false synchronize_with_word e || is_good_mode own true synchronize e
    || is_good_mode own true reset_remote_terminal e)
    (λ e. if code_of e.window.command == synchronize_with_word then first_or_zero (window_data e) else 0) 0 h

-- the result of the self test when a window initiates one (3), and else this
abbrev pub tested_or : ℕ → Option Ended → ℕ → ℕ
tested_or own None before = before
tested_or own (Some e) before = if is_good_mode own true initiate_self_test e then self_test e.before else before

-- the BIT word that the host sets, and else this
abbrev pub bit_set_or : Event → ℕ → ℕ
bit_set_or (Heard line wave gap) before = before
bit_set_or (Quiet line) before = before
bit_set_or (Host action) before = unwrap_or (told_bit action) before

-- the BIT word: the latest of that which the host set and of the result of the self test when one was initiated (3);
-- when the terminal is turned on, that of the host
unfoldable pub bit_word : ℕ → History → ℕ
bit_word own [] = 0
bit_word own (e ∷ past) = if is_power_on e then host_bit past
    else bit_set_or e (tested_or own (ended_by own e past) (bit_word own past))

-- the vector word, which is the host's
unfoldable pub vector : History → ℕ
vector h = latest_set told_vector 0 h

-- a good window of a shutdown of the transmitter (4) or of an override of that (5)
abbrev pub is_good_shutdown_or_override : ℕ → Ended → Bool
is_good_shutdown_or_override own e =
    is_good_mode own true transmitter_shutdown e || is_good_mode own true override_shutdown e

-- a shutdown (4) on the other line is later than each override (5) there and each reset (8)
unfoldable pub is_transmitter_on : ℕ → Line → History → Bool
is_transmitter_on own line h =
    latest own
    (λ e. is_good_mode own true reset_remote_terminal e || not (same_line e.window.line line)
    && is_good_shutdown_or_override own e)
    (λ e. not (code_of e.window.command == transmitter_shutdown)) true h

-- an inhibition of the terminal flag (6) is later than each override (7) and each reset (8)
unfoldable pub is_flag_inhibited : ℕ → History → Bool
is_flag_inhibited own h =
    latest own (λ e. is_good_mode own true inhibit_terminal_flag e || is_good_mode own true override_inhibit e
    || is_good_mode own true reset_remote_terminal e)
    (λ e. code_of e.window.command == inhibit_terminal_flag) false h

-- transmit status word (2) or transmit last command (18), which leave the status word as it was (4.3.3.5.1.7.3,
-- 4.3.3.5.1.7.13)
abbrev pub keeps_status : ℕ → Bool
keeps_status c = is_transmit c && is_mode c
    && (code_of c == transmit_status_word || code_of c == transmit_last_command)

-- a question of the controller to this terminal
abbrev pub is_question : ℕ → ℕ → Bool
is_question own c = address_of c == own && keeps_status c

abbrev pub opened_or : ℕ → Option (Line × ℕ) → ℕ → ℕ
opened_or own None before = before
opened_or own (Some o) before = if is_question own o.1 && code_of o.1 == transmit_last_command then before else o.1

-- the command of the latest window since the terminal was turned on, questions for the last command excepted
unfoldable pub last_command : ℕ → History → ℕ
last_command own [] = 0
last_command own (e ∷ past) = if is_power_on e then 0
    else opened_or own (opening own e past) (last_command own past)
