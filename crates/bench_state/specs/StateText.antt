-- The text of what the terminals of a channel hold (own choice): a line for the channel, and behind it one for each
-- terminal, and those of what its host set where these are asked for too, or the words of one terminal.
use Rattle.std.specs.Prelude.{ℕ, Bool, true, false, not, List, [], ◌++◌, Option, Some, None, codes, decimal}
use Rattle.std.proofs.Common.{zero, suc}
use Rattle.text_lines.specs.Words.{Text}
use Rattle.mil_host.specs.Printing.{data_text}
use Rattle.mil_word.specs.declared.Line.TheVariants.{A, B}
use Rattle.mil_word.specs.Fields.{all_terminals}
use Rattle.mil_terminal.specs.Station.{Station}
use Rattle.mil_terminal.specs.Host.{is_deaf, is_mute}
use Rattle.mil_terminal.specs.Status.{status}
use Rattle.mil_terminal.specs.Registers.{last_command, vector, bit_word, sync_word, is_transmitter_on}
use Rattle.mil_bus.specs.Actions.{station_of}
use Rattle.mil_bus.specs.Exchange.{BusState}
use Rattle.bc_machine.specs.declared.placed.Placed.{Placed}
use Rattle.bc_machine.specs.MadeMessages.{MadeMessage}
use Rattle.bench_state.specs.ControllerText.{controller_state}
use Rattle.bench_state.specs.declared.details.Detail.{Detail}
use Rattle.bench_state.specs.declared.details.Detail.TheVariants.{Registers, Host, Data}
use Rattle.bench_state.specs.Marks.{marks_line, kinds_line}
use Rattle.bench_state.specs.RampText.{ramp_lines}
use Rattle.bench_state.specs.DataText.{data_shown}

-- the lines for which something holds: whether for A, and whether for B
abbrev pub lines_text : Bool → Bool → Text
lines_text false false = codes "-"
lines_text true false = codes "A"
lines_text false true = codes "B"
lines_text true true = codes "AB"

-- the transmitters that are off, where these are on
abbrev pub off_text : Bool → Bool → Text
off_text a b = lines_text (not a) (not b)

-- a name and a register
abbrev pub field : Text → ℕ → Text
field name value = name ++ data_text value

-- the line of a terminal
unfoldable pub terminal_line : Station → Text
terminal_line s =
    (codes "terminal " ++ decimal s.own)
    ++ (field (codes " status ") (status s.own s.history)
    ++ (field (codes " last ") (last_command s.own s.history)
    ++ (field (codes " vector ") (vector s.history)
    ++ (field (codes " bit ") (bit_word s.own s.history)
    ++ (field (codes " sync ") (sync_word s.own s.history)
    ++ (codes " off " ++ off_text (is_transmitter_on s.own A s.history) (is_transmitter_on s.own B s.history)
    ++ codes "\n"))))))

-- the line of what its host set: the lines on which it is deaf, and those on which it is mute
unfoldable pub host_line : Station → Text
host_line s =
    codes "terminal " ++ (decimal s.own
    ++ (codes " deaf " ++ (lines_text (is_deaf A s.history) (is_deaf B s.history)
    ++ (codes " mute " ++ (lines_text (is_mute A s.history) (is_mute B s.history) ++ codes "\n")))))

-- the lines of what its host set: two, and those of its ramps and of what else is not as at first
abbrev pub set_lines : Station → Text
set_lines s = host_line s ++ (marks_line s ++ (ramp_lines s ++ kinds_line s))

-- what is shown of a terminal
abbrev pub terminal_text : Detail → Station → Text
terminal_text Registers s = terminal_line s
terminal_text Host s = terminal_line s ++ set_lines s
terminal_text (Data address subaddress) s = data_shown address subaddress s

-- what is shown of the terminal at an address, if there is one
abbrev pub station_text : Detail → Option Station → Text
station_text detail None = []
station_text detail (Some s) = terminal_text detail s

-- what is shown of the terminals below an address, in order of address
abbrev pub lines_below : Detail → ℕ → BusState → Text
lines_below detail zero bus = []
lines_below detail (suc address) bus =
    lines_below detail address bus ++ station_text detail (station_of address bus.stations)

unfoldable pub terminal_lines : Detail → BusState → Text
terminal_lines detail bus = lines_below detail all_terminals bus

-- a channel's line: its number, and that of the last message that its bus has met
unfoldable pub channel_line : ℕ → ℕ → Text
channel_line channel number = codes "channel "
    ++ (decimal channel ++ (codes " number " ++ (decimal number ++ codes "\n")))

-- what the host of the controller has asked for, where what hosts set is asked for
abbrev pub host_state : Detail → List Placed → List MadeMessage → Text
host_state Host placed made = controller_state placed made
host_state _ placed made = []

-- a channel behind the message of a number, whose controller made these messages, where these actions of hosts were
-- placed
abbrev pub channel_text : Detail → ℕ → ℕ → List Placed → BusState → List MadeMessage → Text
channel_text detail channel number placed bus made =
    channel_line channel number ++ (terminal_lines detail bus ++ host_state detail placed made)
