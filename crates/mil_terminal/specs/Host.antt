-- What the host of a terminal has set by the end of a history.
use Rattle.std.specs.Prelude.{ℕ, Bool, true, false, ◌&&◌, ◌==◌, not, Option, Some, None, if◌then◌else◌}
use Rattle.mil_word.specs.declared.Line.{Line}
use Rattle.mil_word.specs.Words.{same_bool, same_line}
use Rattle.mil_host.specs.Values.{Marked, ModeMarked}
use Rattle.mil_host.specs.declared.actions.Action.{Action}
use Rattle.mil_host.specs.declared.actions.Action.TheVariants.{Busy, Subsystem, Fault, Control, Vector, SelfTest}
use Rattle.mil_host.specs.declared.actions.Action.TheVariants.{Illegal, Legal, Response, Deaf, Mute, IllegalMode}
use Rattle.mil_host.specs.declared.actions.Action.TheVariants.{LegalMode, Broadcast, Power, BitWord, Gap}
use Rattle.mil_terminal.specs.declared.events.Event.{Event}
use Rattle.mil_terminal.specs.declared.events.Event.TheVariants.{Heard, Quiet, Host}
use Rattle.mil_terminal.specs.History.{History, latest_set}

abbrev pub told_busy : Action → Option Bool
told_busy (Busy on) = Some on
told_busy _ = None

abbrev pub told_subsystem : Action → Option Bool
told_subsystem (Subsystem on) = Some on
told_subsystem _ = None

abbrev pub told_fault : Action → Option Bool
told_fault (Fault on) = Some on
told_fault _ = None

abbrev pub told_control : Action → Option Bool
told_control (Control on) = Some on
told_control _ = None

abbrev pub told_vector : Action → Option ℕ
told_vector (Vector word) = Some word
told_vector _ = None

abbrev pub told_self_test : Action → Option ℕ
told_self_test (SelfTest word) = Some word
told_self_test _ = None

abbrev pub told_response : Action → Option ℕ
told_response (Response ticks) = Some ticks
told_response (Gap ticks) = Some ticks
told_response _ = None

-- whether the gap before replies was set apart from the response time
abbrev pub told_gap : Action → Option Bool
told_gap (Response ticks) = Some false
told_gap (Gap ticks) = Some true
told_gap _ = None

abbrev pub told_bit : Action → Option ℕ
told_bit (BitWord word) = Some word
told_bit _ = None

abbrev pub told_broadcast : Action → Option Bool
told_broadcast (Broadcast on) = Some on
told_broadcast _ = None

abbrev pub told_off : Action → Option Bool
told_off (Power on) = Some (not on)
told_off _ = None

abbrev pub is_mark : Bool → ℕ → ℕ → Marked → Bool
is_mark transmit sub count mark = same_bool mark.transmit transmit && mark.sub == sub && mark.count == count

-- whether an action marks this direction, subaddress and count as illegal, or as legal again
abbrev pub told_illegal : Bool → ℕ → ℕ → Action → Option Bool
told_illegal transmit sub count (Illegal mark) = if is_mark transmit sub count mark then Some true else None
told_illegal transmit sub count (Legal mark) = if is_mark transmit sub count mark then Some false else None
told_illegal transmit sub count _ = None

abbrev pub is_mode_mark : Bool → ℕ → ModeMarked → Bool
is_mode_mark transmit code mark = same_bool mark.transmit transmit && mark.code == code

-- whether an action marks mode commands of this T/R bit and mode code as illegal, or takes the mark away
abbrev pub told_illegal_mode : Bool → ℕ → Action → Option Bool
told_illegal_mode transmit code (IllegalMode mark) = if is_mode_mark transmit code mark then Some true else None
told_illegal_mode transmit code (LegalMode mark) = if is_mode_mark transmit code mark then Some false else None
told_illegal_mode transmit code _ = None

abbrev pub told_deaf : Line → Action → Option Bool
told_deaf line (Deaf l on) = if same_line l line then Some on else None
told_deaf line _ = None

abbrev pub told_mute : Line → Action → Option Bool
told_mute line (Mute l on) = if same_line l line then Some on else None
told_mute line _ = None

-- at first everything is off

abbrev pub is_busy : History → Bool
is_busy h = latest_set told_busy false h

abbrev pub has_subsystem_fault : History → Bool
has_subsystem_fault h = latest_set told_subsystem false h

abbrev pub has_fault : History → Bool
has_fault h = latest_set told_fault false h

-- whether the host accepts an offer of bus control
abbrev pub accepts_control : History → Bool
accepts_control h = latest_set told_control false h

-- the result of the terminal's self test
abbrev pub self_test : History → ℕ
self_test h = latest_set told_self_test 0 h

-- the response time before a host sets one, in ticks of 0.1 µs (own choice, within 4.3.3.8)
abbrev pub first_response : ℕ
first_response = 80

-- the gap before a reply in ticks of 0.1 µs: the response time (MIL-STD-1553B 4.3.3.8), or another that the host set
abbrev pub response_gap : History → ℕ
response_gap h = latest_set told_response first_response h

-- whether the host set that gap apart from the response time
abbrev pub is_gap_set : History → Bool
is_gap_set h = latest_set told_gap false h

-- the gap before replies, where the host set it apart from the response time
abbrev pub set_gap : History → Option ℕ
set_gap h = if is_gap_set h then Some (response_gap h) else None

-- the BIT word that the host set, 0 at first
abbrev pub host_bit : History → ℕ
host_bit h = latest_set told_bit 0 h

-- whether commands to all terminals are commands for this one, as they are at first (own choice; the standard makes
-- broadcast an option, 4.3.3.6.7)
abbrev pub takes_broadcast : History → Bool
takes_broadcast h = latest_set told_broadcast true h

-- whether the terminal is off, as it is not at first (own choice)
abbrev pub is_off : History → Bool
is_off h = latest_set told_off false h

abbrev pub turns_on : Action → Bool
turns_on (Power on) = on
turns_on _ = false

-- whether the host turns the terminal on: of words and quiets only those behind the latest such event count (own
-- choice)
abbrev pub is_power_on : Event → Bool
is_power_on (Heard line wave gap) = false
is_power_on (Quiet line) = false
is_power_on (Host action) = turns_on action

-- whether commands of this direction, subaddress and count are illegal (4.4.3.4)
abbrev pub is_marked_illegal : Bool → ℕ → ℕ → History → Bool
is_marked_illegal transmit sub count h = latest_set (told_illegal transmit sub count) false h

-- whether mode commands of this T/R bit and mode code are illegal besides those that no terminal here carries out
abbrev pub is_mode_marked : Bool → ℕ → History → Bool
is_mode_marked transmit code h = latest_set (told_illegal_mode transmit code) false h

-- whether nothing of a line comes to the terminal, whose receiver there fails (own choice)
abbrev pub is_deaf : Line → History → Bool
is_deaf line h = latest_set (told_deaf line) false h

-- whether nothing of its replies comes on a line, where its transmitter fails (own choice)
abbrev pub is_mute : Line → History → Bool
is_mute line h = latest_set (told_mute line) false h
