-- Which messages a selector is about, by their command words (MIL-STD-1553B 4.3.3.5.1); that it does is our own choice.
use Rattle.std.specs.Prelude.{ℕ, ◌==◌, Bool, true, false, not, ◌&&◌, Option, Some, None}
use Rattle.mil_word.specs.Fields.{address_of, sub_of, code_of, is_broadcast, is_transmit, is_mode, is_receive}
use Rattle.judge_rules.specs.declared.rules.Selector.{Selector}
use Rattle.judge_rules.specs.declared.rules.Selector.TheVariants.{Any, Receive, Transmit, Between, Mode, ReceiveAll}
use Rattle.judge_rules.specs.declared.rules.Selector.TheVariants.{BetweenAll, ModeAll}

-- the number that was chosen, each where none was
abbrev pub is_chosen : Option ℕ → ℕ → Bool
is_chosen None number = true
is_chosen (Some chosen) number = number == chosen

-- a command to the terminal that was chosen, never to all terminals (4.3.3.5.1.2)
abbrev pub calls : Option ℕ → ℕ → Bool
calls choice command = not (is_broadcast command) && is_chosen choice (address_of command)

-- a command to receive, or to transmit, at the subaddress that was chosen, and a mode command with the code that was
-- chosen
abbrev pub receives : Option ℕ → ℕ → Bool
receives choice command = is_receive command && is_chosen choice (sub_of command)

abbrev pub transmits : Option ℕ → ℕ → Bool
transmits choice command = not (is_mode command) && is_transmit command && is_chosen choice (sub_of command)

abbrev pub has_code : Option ℕ → ℕ → Bool
has_code choice command = is_mode command && is_chosen choice (code_of command)

-- a message with one command
abbrev pub selects_one : Selector → ℕ → Bool
selects_one Any command = true
selects_one (Receive address subaddress) command = calls address command && receives subaddress command
selects_one (Transmit address subaddress) command = calls address command && transmits subaddress command
selects_one (Mode address code) command = calls address command && has_code code command
selects_one (ReceiveAll subaddress) command = is_broadcast command && receives subaddress command
selects_one (ModeAll code) command = is_broadcast command && has_code code command
selects_one (Between sender sender_subaddress receiver receiver_subaddress) command = false
selects_one (BetweenAll sender sender_subaddress receiver_subaddress) command = false

-- a message with two, of which the first calls the receiver (4.3.3.6.3)
abbrev pub selects_two : Selector → ℕ → ℕ → Bool
selects_two Any first second = true
selects_two (Between sender sender_subaddress receiver receiver_subaddress) first second =
    calls receiver first && receives receiver_subaddress first && calls sender second
    && transmits sender_subaddress second
selects_two (BetweenAll sender sender_subaddress receiver_subaddress) first second =
    is_broadcast first && receives receiver_subaddress first && calls sender second
    && transmits sender_subaddress second
selects_two _ first second = false

-- a message with these commands
abbrev pub selects : Selector → ℕ → Option ℕ → Bool
selects selector first None = selects_one selector first
selects selector first (Some second) = selects_two selector first second
