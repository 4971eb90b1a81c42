-- Words that come one after the other, none of which is a command or a status.
use Rattle.std.specs.Prelude.{◌≡◌, ℕ, ◌^◌, ◌<◌, ◌≤◌, List, [], ◌∷◌, length, get_or, None}
use Rattle.mil_word.specs.declared.Line.{Line}
use Rattle.mil_word.specs.Words.{command_in}
use Rattle.mil_word.specs.Timing.{contiguous_gap}
use Rattle.mil_terminal.specs.declared.events.Event.{Event}
use Rattle.mil_terminal.specs.declared.events.Event.TheVariants.{Heard}
use Rattle.mil_terminal.specs.History.{History}
use Rattle.mil_terminal.specs.Station.{Station, after}

-- the words of a run as events: the first has this gap, and the others follow at once
abbrev pub heard : Line → ℕ → List ℕ → List Event
heard line gap [] = []
heard line gap (wave ∷ waves) = Heard line wave gap ∷ heard line contiguous_gap waves

-- a history after more events, of which the first came first
abbrev pub met : List Event → History → History
met [] h = h
met (e ∷ es) h = met es (e ∷ h)

-- a station after more events, of which the first came first
abbrev pub after_all : Station → List Event → Station
after_all station [] = station
after_all station (e ∷ es) = after_all (after station e) es

-- none of the waves from a place on is a command or a status word
abbrev pub AreNoCommands : ℕ → List ℕ → Type 0
AreNoCommands from waves = (k : ℕ) (d : ℕ) → from ≤ k → k < length waves → command_in (get_or waves k d) ≡ None

-- each of the values has 16 bits
abbrev pub AreSmall : List ℕ → Type 0
AreSmall values = (k : ℕ) (d : ℕ) → k < length values → get_or values k d < 2 ^ 16
