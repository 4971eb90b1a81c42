-- What the host of the controller has asked for: a queue of messages that stand in no frame, and sources of words. Both
-- are read off the placed actions and the messages that were made (own choice).
use Rattle.std.specs.Prelude.{ℕ, zero, suc, ◌+◌, ◌-◌, ◌==◌, nat_lt, Bool, true, false, if◌then◌else◌, List, [], ◌∷◌}
use Rattle.std.specs.Prelude.{◌++◌, length, drop, count_by, Option, Some, None}
use Rattle.std.specs.List.{filter, filter_map}
use Rattle.std.specs.Option.{option_map, option_or}
use Rattle.mil_message.specs.declared.forms.Form.{Form}
use Rattle.controller_host.specs.declared.destinations.Destination.{Destination}
use Rattle.controller_host.specs.declared.controls.Control.TheVariants as control
use Rattle.controller_host.specs.declared.sources.Source.{Source}
use Rattle.controller_host.specs.Values.{InsertionValue}
use Rattle.controller_host.specs.Destinations.{carries}
use Rattle.controller_host.specs.Sources.{advanced, set_by, sourced}
use Rattle.bc_machine.specs.declared.placed.Placed.{Placed}
use Rattle.bc_machine.specs.declared.placed.HostAction.{HostAction}
use Rattle.bc_machine.specs.declared.placed.HostAction.TheVariants.{Terminal, Controller}
use Rattle.bc_machine.specs.MadeMessages.{MadeMessage, own, inserted}

-- the actions placed at the message of a number, in their order
abbrev pub placed_at : ℕ → List Placed → List Placed
placed_at number placed = filter (λ (p : Placed). p.number == number) placed

-- the actions at numbers up to one, by rising number, those at one number in their order
unfoldable pub placed_up_to : ℕ → List Placed → List Placed
placed_up_to zero actions = []
placed_up_to (suc number) actions = placed_up_to number actions ++ placed_at (suc number) actions

-- ---- the queue

abbrev pub insertion_of : HostAction → Option InsertionValue
insertion_of (Controller (control.Insert insertion)) = Some insertion
insertion_of _ = None

-- the messages that the actions at numbers up to one put in, in their order
abbrev pub inserts_up_to : ℕ → List Placed → List InsertionValue
inserts_up_to number placed = filter_map (λ (p : Placed). insertion_of p.action) (placed_up_to number placed)

abbrev pub is_inserted : MadeMessage → Bool
is_inserted (own message) = false
is_inserted inserted = true

-- how many of the messages made were inserted
abbrev pub inserted_in : List MadeMessage → ℕ
inserted_in made = count_by is_inserted made

-- the queue as the message of a number meets it, behind these messages: what was put in by then, less what was sent
abbrev pub queue_at : ℕ → List Placed → List MadeMessage → List InsertionValue
queue_at number placed made = drop (inserted_in made) (inserts_up_to number placed)

abbrev pub first_of : List InsertionValue → Option InsertionValue
first_of [] = None
first_of (x ∷ xs) = Some x

-- the message of the host that comes next behind these messages, where at most so many are inserted
abbrev pub next_insertion : List Placed → ℕ → List MadeMessage → Option InsertionValue
next_insertion placed most made =
    if nat_lt (inserted_in made) most then first_of (queue_at (length made + 1) placed made) else None

-- ---- the sources

abbrev pub set_by_action : HostAction → Destination → ℕ → Option Source
set_by_action (Terminal address action) d place = None
set_by_action (Controller asked) d place = set_by asked d place

-- what a place of a destination was set to last by these actions, and at which number
abbrev pub set_at : Placed → Destination → ℕ → Option (ℕ × Source)
set_at p d place = option_map (λ source. (p.number, source)) (set_by_action p.action d place)

abbrev pub last_set : Destination → ℕ → List Placed → Option (ℕ × Source)
last_set d place [] = None
last_set d place (p ∷ ps) = option_or (last_set d place ps) (set_at p d place)

-- whether a message of the script carries a word there; no inserted message does
abbrev pub is_carrier : Destination → ℕ → MadeMessage → Bool
is_carrier d place (own message) = carries d place message
is_carrier d place inserted = false

-- how many of the messages from a number on carried a word there
abbrev pub carried_since : ℕ → Destination → ℕ → List MadeMessage → ℕ
carried_since number d place made = count_by (is_carrier d place) (drop (number - 1) made)

-- a source behind so many messages that carried it; behind none it is as it was set
abbrev pub moved_on : ℕ → Source → Source
moved_on zero source = source
moved_on (suc count) source = advanced (suc count) source

abbrev pub source_since : Destination → ℕ → List MadeMessage → ℕ × Source → Source
source_since d place made set = moved_on (carried_since set.0 d place made) set.1

-- the source of a place of a destination as the message of a number meets it, behind these messages: what it was set to
-- last, behind all messages that carried it since
abbrev pub source_at : ℕ → List Placed → List MadeMessage → Destination → ℕ → Option Source
source_at number placed made d place =
    option_map (source_since d place made) (last_set d place (placed_up_to number placed))

-- a message of the script as it is sent behind these messages
abbrev pub sent_form : List Placed → List MadeMessage → Form → Form
sent_form placed made form = sourced (source_at (length made + 1) placed made) form
