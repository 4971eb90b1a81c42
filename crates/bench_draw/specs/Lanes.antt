-- Which messages stand in which lane of a picture, and which of their words (own choice): the lane of a line has those
-- that went over it, that of a terminal those that call it, of which it has the words that this terminal sends or is
-- sent. Address 31 is that of all terminals (MIL-STD-1553B 4.3.3.5.1.2).
use Rattle.std.specs.Prelude.{ℕ, ◌-◌, ◌==◌, Bool, true, false, not, ◌||◌, nat_lt, if◌then◌else◌, List, map}
use Rattle.std.specs.Prelude.{Option, Some, None, get_or}
use Rattle.std.specs.List.{filter, range_with_len}
use Rattle.mil_word.specs.Fields.{address_of}
use Rattle.mil_word.specs.declared.Line.TheVariants.{A, B}
use Rattle.ch11_layout.specs.BlockStatus.{is_on_line_b}
use Rattle.ch11_layout.specs.Layouts.{word_of, commands_in, data_start, data_end}
use Rattle.ch11_layout.specs.Stamps.{Recorded}
use Rattle.bench_draw.specs.declared.called.Called.{Called}
use Rattle.bench_draw.specs.declared.track.Track.{Track}
use Rattle.bench_draw.specs.declared.track.Track.TheVariants as track

-- the address that the command at a place calls
abbrev pub called_at : Recorded → ℕ → Option ℕ
called_at m place = if nat_lt place (commands_in m) then Some (address_of (word_of m.bytes place)) else None

abbrev pub is_address : Option ℕ → ℕ → Bool
is_address None address = false
is_address (Some called) address = called == address

abbrev pub calls_at : Recorded → ℕ → ℕ → Bool
calls_at m place address = is_address (called_at m place) address

-- a message has at most two commands
abbrev pub calls : Recorded → ℕ → Bool
calls m address = calls_at m 0 address || calls_at m 1 address

abbrev pub stands_in : Recorded → Track → Bool
stands_in m (track.Line A) = not (is_on_line_b m.block)
stands_in m (track.Line B) = is_on_line_b m.block
stands_in m (track.Terminal address) = calls m address

-- a command is sent to the terminal that it calls; a status word in front of the data words is sent by the one that the
-- last command calls, and one behind them by the one that the first command calls; data words go between all that are
-- called (4.3.3.6)
abbrev pub concerns : Recorded → ℕ → ℕ → Bool
concerns m place address =
    if nat_lt place (commands_in m) then calls_at m place address
    else if nat_lt place (data_start m) then calls_at m (commands_in m - 1) address
    else if nat_lt place (data_end m) then calls m address
    else calls_at m 0 address

abbrev pub has_word : Recorded → ℕ → Track → Bool
has_word m place (track.Line line) = true
has_word m place (track.Terminal address) = concerns m place address

-- the addresses that are called
abbrev pub is_called : Called → ℕ → Bool
is_called c address = get_or c.flags address false

-- the lanes of a channel by terminal: of those of all addresses in rising order the ones that are called
abbrev pub has_lane : Called → Track → Bool
has_lane c (track.Line line) = false
has_lane c (track.Terminal address) = is_called c address

abbrev pub lanes_below : Called → ℕ → List Track
lanes_below c count = filter (has_lane c) (map (λ (address : ℕ). track.Terminal address) (range_with_len 0 count))

abbrev pub lanes_of : Called → List Track
lanes_of c = lanes_below c 32
