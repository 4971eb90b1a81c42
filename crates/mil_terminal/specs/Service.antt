-- The service request of a terminal (MIL-STD-1553B 4.3.3.5.3.5), as a query on its history: what the host said last,
-- and whether a reply has ended it that the host asked for once (own choice).
use Rattle.std.specs.Prelude.{ℕ, Bool, true, false, ◌&&◌, ◌||◌, not, [], ◌∷◌, Option, Some, None, if◌then◌else◌}
use Rattle.std.specs.Option.{is_some}
use Rattle.mil_host.specs.declared.actions.Action.{Action}
use Rattle.mil_host.specs.declared.actions.Action.TheVariants.{Service, ServiceOnce}
use Rattle.mil_terminal.specs.declared.events.Event.TheVariants.{Heard, Quiet, Host}
use Rattle.mil_terminal.specs.History.{History, latest_set}
use Rattle.mil_terminal.specs.Answers.{gives_vector, quiet_ends}

abbrev pub told_service : Action → Option Bool
told_service (Service on) = Some on
told_service ServiceOnce = Some true
told_service _ = None

-- whether the host asks for service once
abbrev pub told_once : Action → Option Bool
told_once (Service on) = Some false
told_once ServiceOnce = Some true
told_once _ = None

-- whether a reply has had the vector word since the host spoke of service last, be it heard or not
abbrev pub is_served : ℕ → History → Bool
is_served own [] = false
is_served own (Heard line wave gap ∷ past) = is_served own past
is_served own (Quiet line ∷ past) = quiet_ends own (gives_vector own) line past || is_served own past
is_served own (Host action ∷ past) = if is_some (told_once action) then false else is_served own past

-- whether service was asked for once, and no reply has ended the request
abbrev pub waits_once : ℕ → History → Bool
waits_once own h = latest_set told_once false h && not (is_served own h)

-- whether service is requested
abbrev pub requests_service : ℕ → History → Bool
requests_service own h = latest_set told_service false h && not (latest_set told_once false h && is_served own h)
