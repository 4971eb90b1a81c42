-- What a window that has ended is worth (MIL-STD-1553B 4.4.3.3 to 4.4.3.6).
use Rattle.std.specs.Prelude.{ℕ, ◌+◌, Bool, true, false, ◌&&◌, ◌||◌, not, ◌==◌, nat_le, List, [], ◌∷◌, Option, Some}
use Rattle.std.specs.Prelude.{None, if◌then◌else◌}
use Rattle.std.proofs.Common.{zero, suc}
use Rattle.std.specs.Option.{is_some}
use Rattle.mil_word.specs.Words.{command_in, data_in}
use Rattle.mil_word.specs.Fields.{address_of, is_broadcast, is_transmit, sub_of, code_of, count_of, is_mode, is_receive}
use Rattle.mil_word.specs.Timing.{contiguous_gap, sync_to_parity, transfer_time_out}
use Rattle.mil_mode.specs.Table.{is_legal_mode, is_broadcast_mode}
use Rattle.mil_mode.specs.Codes.{first_with_word}
use Rattle.mil_terminal.specs.declared.events.Event.{Event}
use Rattle.mil_terminal.specs.declared.events.Event.TheVariants.{Heard, Quiet}
use Rattle.mil_terminal.specs.History.{History}
use Rattle.mil_terminal.specs.Host.{is_marked_illegal, is_mode_marked}
use Rattle.mil_terminal.specs.Windows.{Window, Ended, follows_at_once, sender_in}

-- the data words that a command announces: those of a receive command, and one with a mode command that is no
-- transmit command and has code 16 or more (4.3.3.6.1, 4.3.3.6.6)
abbrev pub words_due : ℕ → ℕ
words_due c =
    if is_receive c then count_of c
    else if is_mode c && not (is_transmit c) && nat_le first_with_word (code_of c) then 1 else 0

-- these are so many sound data words, each contiguous to the word before, and then a quiet
abbrev pub are_due_words : ℕ → List Event → Bool
are_due_words zero (Quiet line ∷ []) = true
are_due_words (suc n) (Heard line wave gap ∷ items) = follows_at_once gap && is_some (data_in wave)
    && are_due_words n items
are_due_words _ _ = false

-- how long it takes from the middle of the receive command's parity bit to the middle of the first data word's sync:
-- the gap of the transmit command, the rest of that word, the gap of the sender's status, the rest of the
-- status, and the gap of the data word
abbrev pub is_in_time : ℕ → Bool
is_in_time gap =
    nat_le (contiguous_gap + sync_to_parity + gap + sync_to_parity + contiguous_gap) transfer_time_out

abbrev pub is_from : ℕ → Option ℕ → Bool
is_from sender None = false
is_from sender (Some status) = address_of status == sender

-- what the sender sends: its status, no later than is allowed, and the due words
abbrev pub is_sent_by : ℕ → ℕ → List Event → Bool
is_sent_by sender n (Heard line wave gap ∷ items) = is_from sender (command_in wave) && is_in_time gap
    && are_due_words n items
is_sent_by sender n _ = false

-- a quiet, and then what the sender sends
abbrev pub is_answered_by : ℕ → ℕ → List Event → Bool
is_answered_by sender n (Quiet line ∷ items) = is_sent_by sender n items
is_answered_by sender n _ = false

-- a transfer from another terminal: the command to that one, a quiet, and what it sends (4.3.3.6.3)
abbrev pub are_transfer : ℕ → ℕ → List Event → Bool
are_transfer sender n (command ∷ items) = is_answered_by sender n items
are_transfer sender n [] = false

abbrev pub has_shape : Option ℕ → ℕ → List Event → Bool
has_shape None n items = are_due_words n items
has_shape (Some sender) n items = are_transfer sender n items

-- whether the items are exactly what the command announces
abbrev pub has_good_shape : ℕ → Window → Bool
has_good_shape own w = has_shape (sender_in own w.command w.items) (words_due w.command) w.items

-- commands that no terminal here carries out: mode codes that it does not have, mode codes and transmit commands
-- to all terminals where the standard allows none (4.3.3.5.1.7, 4.3.3.6.7)
abbrev pub is_unknown : ℕ → Bool
is_unknown c =
    if is_mode c
    then not (is_legal_mode (is_transmit c) (code_of c)) || is_broadcast c
    && not (is_broadcast_mode (is_transmit c) (code_of c))
    else is_broadcast c && is_transmit c

-- whether the host has marked the command as illegal
abbrev pub is_marked : ℕ → History → Bool
is_marked c h = if is_mode c then is_mode_marked (is_transmit c) (code_of c) h
    else is_marked_illegal (is_transmit c) (sub_of c) (count_of c) h

-- whether no terminal here carries out the command, or its host has marked it (4.4.3.4)
abbrev pub is_illegal : ℕ → History → Bool
is_illegal c h = is_unknown c || is_marked c h

-- good; of good shape, but illegal; or bad
pub data Verdict : Type 0 where
  good : Verdict
  illegal : Verdict
  bad : Verdict

abbrev pub verdict : ℕ → Ended → Verdict
verdict own e =
    if e.by_quiet && has_good_shape own e.window
    then if is_illegal e.window.command e.before then illegal else good
    else bad

abbrev pub is_good : Verdict → Bool
is_good good = true
is_good illegal = false
is_good bad = false

abbrev pub is_bad : Verdict → Bool
is_bad bad = true
is_bad good = false
is_bad illegal = false
