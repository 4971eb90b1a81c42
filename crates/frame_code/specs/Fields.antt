-- The fields of a message, form by form: which first command, second command and number of data words it may have
-- (MIL-STD-1553B 4.3.3.5.1 for the fields of a command word, 4.3.3.6 for the forms).
use Rattle.std.specs.Prelude.{ℕ, Bool, false, not, ◌&&◌, ◌||◌, ◌==◌, if◌then◌else◌}
use Rattle.mil_word.specs.Fields.{address_of, is_broadcast, is_transmit, code_of, count_of, is_mode}
use Rattle.mil_message.specs.Rules.{is_address, is_code_alone, is_code_from, is_code_to}

-- a command to receive, or to transmit, data words at a subaddress
abbrev pub receives : ℕ → Bool
receives c = not (is_transmit c) && not (is_mode c)

abbrev pub transmits : ℕ → Bool
transmits c = is_transmit c && not (is_mode c)

-- a command to one terminal
abbrev pub calls_one : ℕ → Bool
calls_one c = is_address (address_of c)

-- a mode command whose code goes without a data word, with one from the terminal, or with one to it
abbrev pub mode_alone : ℕ → Bool
mode_alone c = is_transmit c && is_mode c && is_code_alone (code_of c)

abbrev pub mode_from : ℕ → Bool
mode_from c = is_transmit c && is_mode c && is_code_from (code_of c)

abbrev pub mode_to : ℕ → Bool
mode_to c = not (is_transmit c) && is_mode c && is_code_to (code_of c)

-- whether a message of the form may have this first command
abbrev pub first_fits : ℕ → ℕ → Bool
first_fits form c =
    if form == 0 then calls_one c && receives c
    else if form == 1 then calls_one c && transmits c
    else if form == 2 then calls_one c && receives c
    else if form == 3 then calls_one c && mode_alone c
    else if form == 4 then calls_one c && mode_from c
    else if form == 5 then calls_one c && mode_to c
    else if form == 6 then is_broadcast c && receives c
    else if form == 7 then is_broadcast c && receives c
    else if form == 8 then is_broadcast c && mode_alone c
    else if form == 9 then is_broadcast c && mode_to c
    else false

-- a command to one terminal to transmit as many words as the first command has others receive
abbrev pub sends_for : ℕ → ℕ → Bool
sends_for first c = calls_one c && transmits c && code_of c == code_of first

-- whether a message of the form with this first command may have this second command; 0 is none
abbrev pub second_fits : ℕ → ℕ → ℕ → Bool
second_fits form first c =
    if form == 2 then sends_for first c && not (address_of c == address_of first)
    else if form == 7 then sends_for first c
    else c == 0

-- how many data words the controller sends after the commands
abbrev pub words_due : ℕ → ℕ → ℕ
words_due form first =
    if form == 0 || form == 6 then count_of first
    else if form == 5 || form == 9 then 1
    else 0
