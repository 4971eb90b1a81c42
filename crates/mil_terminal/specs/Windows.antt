-- The windows of a terminal: what opens one, what is heard in it, and what ends it (MIL-STD-1553B 4.4.3, 4.6).
use Rattle.std.specs.Prelude.{ℕ, Bool, true, false, ◌&&◌, ◌||◌, not, ◌==◌, List, [], ◌∷◌, ◌++◌, Option, Some, None}
use Rattle.std.specs.Prelude.{if◌then◌else◌}
use Rattle.std.proofs.Common.{zero, suc}
use Rattle.std.specs.Option.{option_and_then, option_map, option_or, is_some}
use Rattle.std.specs.List.{filter, cons_option}
use Rattle.mil_word.specs.declared.Line.{Line}
use Rattle.mil_word.specs.Words.{same_line, value_if, command_in}
use Rattle.mil_word.specs.Fields.{address_of, is_broadcast, is_transmit, is_mode, is_receive}
use Rattle.mil_word.specs.Timing.{contiguous_gap}
use Rattle.mil_terminal.specs.declared.events.Event.{Event}
use Rattle.mil_terminal.specs.declared.events.Event.TheVariants.{Heard, Quiet, Host}
use Rattle.mil_terminal.specs.History.{History}
use Rattle.mil_terminal.specs.Host.{is_power_on, takes_broadcast}

-- a command to the terminal: with its own address, or with that of all terminals where its host has not taken it out of
-- these
abbrev pub is_to : ℕ → History → ℕ → Bool
is_to own past c = address_of c == own || is_broadcast c && takes_broadcast past

-- the command with which an event opens a window behind a history: a sound word with command sync that is to the
-- terminal
abbrev pub opening : ℕ → Event → History → Option (Line × ℕ)
opening own (Heard line wave gap) past = option_map
    (λ c. (line, c)) (option_and_then (λ c. value_if (is_to own past c) c) (command_in wave))
opening own (Quiet line) past = None
opening own (Host action) past = None

abbrev pub opens : ℕ → Event → History → Bool
opens own e past = is_some (opening own e past)

-- whether the event is a word or a quiet of the line
abbrev pub is_on : Line → Event → Bool
is_on line (Heard l wave gap) = same_line l line
is_on line (Quiet l) = same_line l line
is_on line (Host action) = false

-- a window: its line, its command, and the later words and quiets of its line, the oldest first
pub record Window : Type 0 where
  pub line : Line
  pub command : ℕ
  pub items : List Event

-- the latest opening since the terminal was turned on
abbrev pub latest_opening : ℕ → History → Option (Line × ℕ)
latest_opening own [] = None
latest_opening own (e ∷ past) = if is_power_on e then None else option_or (opening own e past) (latest_opening own past)

-- what came after the latest opening, the oldest first
abbrev pub since_opening : ℕ → History → List Event
since_opening own [] = []
since_opening own (e ∷ past) = if is_power_on e || opens own e past then [] else since_opening own past ++ e ∷ []

-- the window that was opened last
unfoldable pub latest_window : ℕ → History → Option Window
latest_window own h =
    option_map (λ (o : Line × ℕ). record
    { line = o.0; command = o.1; items = filter (is_on o.0) (since_opening own h) }) (latest_opening own h)

-- a command to transmit data words from a subaddress
abbrev pub transmits_data : ℕ → Bool
transmits_data c = is_transmit c && not (is_mode c)

-- a transmit command to a terminal that is neither this one nor all
abbrev pub calls_another : ℕ → ℕ → Bool
calls_another own c = transmits_data c && not (address_of c == own) && not (is_broadcast c)

-- whether a word with this gap is contiguous to the word before
abbrev pub follows_at_once : ℕ → Bool
follows_at_once gap = gap == contiguous_gap

-- the commands of a transfer from another terminal: a receive command, and contiguous to it the transmit command to
-- the other one (4.3.3.6.3)
abbrev pub begins_transfer : ℕ → ℕ → ℕ → ℕ → Bool
begins_transfer own command gap c = is_receive command && follows_at_once gap && calls_another own c

-- the terminal that is told to send, where a word behind the command of a window begins a transfer
abbrev pub sender_called : ℕ → ℕ → ℕ → ℕ → Option ℕ
sender_called own command wave gap =
    option_and_then (λ c. value_if (begins_transfer own command gap c) (address_of c)) (command_in wave)

-- the sender that the first item calls
abbrev pub sender_in : ℕ → ℕ → List Event → Option ℕ
sender_in own command (Heard line wave gap ∷ items) = sender_called own command wave gap
sender_in own command (Quiet line ∷ items) = None
sender_in own command (Host action ∷ items) = None
sender_in own command [] = None

-- a window is decided by its first quiet, and one with a sender by its second
abbrev pub quiets_due : ℕ → Window → ℕ
quiets_due own w = if is_some (sender_in own w.command w.items) then 2 else 1

-- whether there are so many quiets among the items
abbrev pub has_quiets : ℕ → List Event → Bool
has_quiets zero items = true
has_quiets (suc n) [] = false
has_quiets (suc n) (Quiet line ∷ items) = has_quiets n items
has_quiets (suc n) (Heard line wave gap ∷ items) = has_quiets (suc n) items
has_quiets (suc n) (Host action ∷ items) = has_quiets (suc n) items

abbrev pub is_decided : ℕ → Window → Bool
is_decided own w = has_quiets (quiets_due own w) w.items

-- a window that has ended: whether by its quiet, and what came before the event that ended it
pub record Ended : Type 0 where
  pub window : Window
  pub by_quiet : Bool
  pub before : History

abbrev pub undecided : ℕ → Option Window → Option Window
undecided own None = None
undecided own (Some w) = if is_decided own w then None else Some w

abbrev pub decided : ℕ → Option Window → Option Window
decided own None = None
decided own (Some w) = if is_decided own w then Some w else None

-- the window that the event ends: the latest one, if it was not decided before, by a new opening on either line
-- or by its last quiet
unfoldable pub ended_by : ℕ → Event → History → Option Ended
ended_by own e past =
    option_and_then
    (λ w. if opens own e past then Some (record { window = w; by_quiet = false; before = past })
    else option_map (λ (v : Window). record { window = v; by_quiet = true; before = past })
    (decided own (latest_window own (e ∷ past))))
    (undecided own (latest_window own past))

-- all windows that have ended since the terminal was turned on, the latest end first
unfoldable pub ended : ℕ → History → List Ended
ended own [] = []
ended own (e ∷ past) = if is_power_on e then [] else cons_option (ended_by own e past) (ended own past)

abbrev pub is_open_on : Line → Option Window → Bool
is_open_on line None = false
is_open_on line (Some w) = same_line line w.line

-- whether a window is open on the line that is not decided yet
unfoldable pub is_listening : ℕ → Line → History → Bool
is_listening own line h = is_open_on line (undecided own (latest_window own h))
