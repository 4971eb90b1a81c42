-- A terminal is seen as its address and its history.
use Rattle.std.specs.Prelude.{ℕ, List, ◌∷◌, if◌then◌else◌}
use Rattle.mil_terminal.specs.declared.events.Event.{Event}
use Rattle.mil_terminal.specs.declared.events.Event.TheVariants.{Heard, Quiet, Host}
use Rattle.mil_terminal.specs.History.{History}
use Rattle.mil_terminal.specs.Host.{is_off}

pub record Station : Type 0 where
  pub own : ℕ
  -- the newest event first
  pub history : List Event

-- a history after one more event: what reaches a terminal that is off is none of its history
abbrev pub grown : Event → History → History
grown (Heard line wave gap) h = if is_off h then h else Heard line wave gap ∷ h
grown (Quiet line) h = if is_off h then h else Quiet line ∷ h
grown (Host action) h = Host action ∷ h

-- the station after one more event
abbrev pub after : Station → Event → Station
after station event = record { own = station.own; history = grown event station.history }
