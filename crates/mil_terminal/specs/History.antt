-- What a terminal has met.
use Rattle.std.specs.Prelude.{List, [], ◌∷◌, Option, unwrap_or}
use Rattle.mil_host.specs.declared.actions.Action.{Action}
use Rattle.mil_terminal.specs.declared.events.Event.{Event}
use Rattle.mil_terminal.specs.declared.events.Event.TheVariants.{Heard, Quiet, Host}

-- a history, the newest event first
abbrev pub History : Type 0
History = List Event

-- what the latest host action that speaks of it set, and this before any did
abbrev pub latest_set : {X : Type 0} → (Action → Option X) → X → History → X
latest_set told first [] = first
latest_set told first (Heard line wave gap ∷ past) = latest_set told first past
latest_set told first (Quiet line ∷ past) = latest_set told first past
latest_set told first (Host action ∷ past) = unwrap_or (told action) (latest_set told first past)
