-- The exchange of one message (MIL-STD-1553B 4.3.3.6, 4.3.3.7; times, faults and the limit of forty words are own
-- choices).
use Rattle.std.specs.Prelude.{ℕ, ◌+◌, ◌-◌, ◌==◌, min, max, if◌then◌else◌, Bool, true, false, ◌&&◌, ◌||◌, List, [], ◌∷◌}
use Rattle.std.specs.Prelude.{◌++◌, length, map, take, Option, Some, None}
use Rattle.std.specs.Option.{option_map, option_or}
use Rattle.std.proofs.Common.{zero, suc}
use Rattle.mil_word.specs.declared.Line.{Line}
use Rattle.mil_message.specs.declared.forms.Form.{Form}
use Rattle.mil_message.specs.Forms.{controller_waves}
use Rattle.mil_word.specs.Words.{same_line, command_wave, data_wave}
use Rattle.mil_word.specs.Timing.{contiguous_gap, least_gap, longer_gap}
use Rattle.mil_line.specs.declared.faults.Fault.{Fault}
use Rattle.mil_line.specs.Faults.{altered, gap_of}
use Rattle.mil_bus.specs.declared.talks.Source.{Source}
use Rattle.mil_bus.specs.declared.talks.Source.TheVariants.{Controller, Terminal}
use Rattle.mil_bus.specs.declared.talks.Sent.{Sent}
use Rattle.mil_bus.specs.declared.talks.Talk.{Talk}
use Rattle.mil_bus.specs.Times.{end_of, is_controllers_last}
use Rattle.mil_bus.specs.BlockStatus.{outcome_of}
use Rattle.mil_terminal.specs.declared.events.Event.TheVariants.{Heard, Quiet}
use Rattle.mil_terminal.specs.declared.replies.Reply.{Reply}
use Rattle.mil_terminal.specs.Station.{Station, after}
use Rattle.mil_terminal.specs.Replies.{reply}
use Rattle.mil_terminal.specs.Host.{is_deaf, is_mute}
pub use Rattle.mil_bus.specs.RunWords.{words_of_run, contiguous_run}
pub use Rattle.mil_line.specs.Ranges.{most_sent}

-- what a sender gives: a gap, and the waves of its words
pub record Offer : Type 0 where
  pub source : Source
  pub gap : ℕ
  pub waves : List ℕ

-- as many runs as words may come, since each run but the last puts one on the line
abbrev pub most_runs : ℕ
most_runs = most_sent

-- what an exchange has come to: the words sent, and the stations in order of address
pub record Standing : Type 0 where
  pub sent : List Sent
  pub stations : List Station

-- what comes on the line of a run, where there is room for so many words
unfoldable pub run_sent : ℕ → List Fault → ℕ → Offer → List Sent
run_sent room faults run offer = words_of_run run offer.source (gap_of faults run offer.gap)
    (take room (altered faults run offer.waves))

abbrev pub sends : Source → ℕ → Bool
sends Controller own = false
sends (Terminal address) own = address == own

-- whether the words of a sender do not come to a station: its own, and all on a line where it is deaf
abbrev pub misses : Line → Source → Station → Bool
misses line source s = sends source s.own || is_deaf line s.history

-- a word, heard by a station that did not send it and is not deaf on its line
abbrev pub hearing : Line → Sent → Station → Station
hearing line w s = if misses line w.source s then s else after s (Heard line w.wave w.gap)

-- words, each heard by all
abbrev pub all_hearing : Line → List Sent → List Station → List Station
all_hearing line [] stations = stations
all_hearing line (w ∷ ws) stations = all_hearing line ws (map (hearing line w) stations)

-- a quiet, which does not come to a station that is deaf on its line
abbrev pub quieted : Line → Station → Station
quieted line s = if is_deaf line s.history then s else after s (Quiet line)

-- a status and its data words, as waves
abbrev pub reply_waves : List ℕ → List ℕ
reply_waves [] = []
reply_waves (status ∷ values) = command_wave status ∷ map data_wave values

abbrev pub offer_of : ℕ → Reply → Offer
offer_of own r = record { source = Terminal own; gap = r.gap; waves = reply_waves r.words.items }

-- whether nothing that a station replies comes on a line: no quiet of it comes to the station, or its transmitter there
-- fails
abbrev pub is_unheard : Line → Station → Bool
is_unheard line s = is_deaf line s.history || is_mute line s.history

-- what a station answers to a quiet, as far as it comes on the line
abbrev pub answer : Line → Station → Option Offer
answer line s = if is_unheard line s then None else option_map (offer_of s.own) (reply s.own line s.history)

-- the first answer to a quiet, in order of address
abbrev pub first_reply : Line → List Station → Option Offer
first_reply line [] = None
first_reply line (s ∷ ss) = option_or (answer line s) (first_reply line ss)

-- after a run that put a word on the line all stations get quiet, and the first to answer sends the next run
abbrev pub quiet_after : Line → List Sent → List Station → List Station
quiet_after line [] stations = stations
quiet_after line (w ∷ ws) stations = map (quieted line) stations

abbrev pub next_offer : Line → List Sent → List Station → Option Offer
next_offer line [] stations = None
next_offer line (w ∷ ws) stations = first_reply line stations

abbrev pub standing_after : Line → List Sent → Standing → Standing
standing_after line words s = record
    { sent = s.sent ++ words; stations = quiet_after line words (all_hearing line words s.stations) }

-- the runs from one on, at most so many: each but the last puts a word on the line
unfoldable pub runs : ℕ → Line → List Fault → ℕ → Option Offer → Standing → Standing
runs zero line faults run offer s = s
runs (suc left) line faults run None s = s
runs (suc left) line faults run (Some offer) s =
    let words = run_sent (most_sent - length s.sent) faults run offer in
    runs left line faults (suc run) (next_offer line words (all_hearing line words s.stations))
    (standing_after line words s)

-- a bus: its start tick, its least start (the tick before which no talk starts), its talks, the latest first, and its
-- stations in order of address
pub record BusState : Type 0 where
  pub start : ℕ
  pub least_start : ℕ
  pub talks : List Talk
  pub stations : List Station

-- when the last word on either line ended
abbrev pub clock_of : ℕ → List Talk → ℕ
clock_of start [] = start
clock_of start (t ∷ ts) = end_of t

-- the least gap after a talk
abbrev pub least_after : Talk → ℕ
least_after t = if (outcome_of t.message t.sent.items).failed || is_controllers_last t.sent.items then longer_gap
    else least_gap

-- now: when the last word on either line ended, or the least start where that is later
abbrev pub now_of : BusState → ℕ
now_of b = max (clock_of b.start b.talks) b.least_start

-- no talk starts before this tick, nor before what was asked for earlier
abbrev pub paced : ℕ → BusState → BusState
paced tick b = record { start = b.start; least_start = max b.least_start tick; talks = b.talks; stations = b.stations }

-- no talk starts before this tick, whatever was asked for earlier
abbrev pub held_until : ℕ → BusState → BusState
held_until tick b = record { start = b.start; least_start = tick; talks = b.talks; stations = b.stations }

-- What was played on a bus: its talks, and what its stations have met. The least start is left out: it has an effect on
-- a talk that follows alone.
abbrev pub played : BusState → BusState
played b = record { start = b.start; least_start = 0; talks = b.talks; stations = b.stations }

-- when the next talk would start by its gap alone, where this gap is asked for
abbrev pub next_start : ℕ → List Talk → ℕ → ℕ
next_start start [] gap = start
next_start start (t ∷ ts) gap = end_of t + (max gap (least_after t) - contiguous_gap)

-- when it starts: no sooner than at the least start
abbrev pub talk_start : BusState → ℕ → ℕ
talk_start b gap = max (next_start b.start b.talks gap) b.least_start

abbrev pub has_word : List Sent → Bool
has_word [] = false
has_word (w ∷ ws) = true

-- when the last word on a line ended, if there was one
abbrev pub last_on : Line → List Talk → Option ℕ
last_on line [] = None
last_on line (t ∷ ts) = if same_line t.line line && has_word t.sent.items then Some (end_of t) else last_on line ts

-- the longest gap that is told apart; it stands for all longer ones (own choice)
abbrev pub longest_gap : ℕ
longest_gap = 65535

-- the gap from a word's end to a word that starts at a tick
abbrev pub gap_since : Option ℕ → ℕ → ℕ
gap_since None tick = longest_gap
gap_since (Some end) tick = min (tick + contiguous_gap - end) longest_gap

abbrev pub controllers : Line → Form → ℕ → List Talk → Offer
controllers line message tick talks =
    record { source = Controller; gap = gap_since (last_on line talks) tick; waves = controller_waves message }

-- what the exchange of a message comes to; forty runs do, since each but the last puts a word on the line
unfoldable pub exchange_of : BusState → Line → Form → ℕ → List Fault → Standing
exchange_of b line message gap faults =
    runs most_runs line faults 0 (Some (controllers line message (talk_start b gap) b.talks))
    (record { sent = []; stations = b.stations })

unfoldable pub talk_of : BusState → Line → Form → ℕ → List Fault → Talk
talk_of b line message gap faults =
    record {
      start = talk_start b gap;
      line = line;
      message = message;
      sent = record { items = (exchange_of b line message gap faults).sent };
    }

unfoldable pub exchanged : BusState → Line → Form → ℕ → List Fault → BusState
exchanged b line message gap faults =
    record {
      start = b.start;
      least_start = b.least_start;
      talks = talk_of b line message gap faults ∷ b.talks;
      stations = (exchange_of b line message gap faults).stations;
    }
