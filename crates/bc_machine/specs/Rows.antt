-- Placed actions as rows: what a row stands for, beside the lists of what does not fit into one.
use Rattle.std.specs.Prelude.{◌≡◌, ℕ, ◌<◌, ◌≤◌, ◌==◌, false, List, [], ◌∷◌, map, length, Option, Some, None}
use Rattle.std.specs.Prelude.{if◌then◌else◌}
use Rattle.std.specs.List.{filter}
use Rattle.mil_word.specs.Fields.{highest_put_up}
use Rattle.mil_host.specs.declared.actions.Action.{Action}
use Rattle.mil_host.specs.declared.actions.Action.TheVariants as terminal
use Rattle.controller_host.specs.declared.controls.Control.{Control}
use Rattle.controller_host.specs.declared.controls.Control.TheVariants.{Insert}
use Rattle.controller_host.specs.Sources.{is_source_control}
use Rattle.bc_machine.specs.declared.placed.Placed.{Placed}
use Rattle.bc_machine.specs.declared.placed.HostAction.{HostAction}
use Rattle.bc_machine.specs.declared.placed.HostAction.TheVariants.{Terminal, Controller}
use Rattle.bc_machine.specs.declared.action_rows.KeptAction.{KeptAction}
use Rattle.bc_machine.specs.declared.action_rows.KeptAction.TheVariants as kept
use Rattle.bc_machine.specs.declared.action_rows.Row.{Row}
use Rattle.bc_machine.specs.Beside.{BesideLists, nothing_beside, words_beside, insert_beside, whole_beside}

-- the action of a terminal that stands in a row alone; for one that stands beside the rows nothing is said
abbrev pub alone : KeptAction → Action
alone (kept.Word sub word) = terminal.Transmit (record { sub = sub; words = word ∷ [] })
alone (kept.Put place) = terminal.Busy false
alone (kept.Insert place) = terminal.Busy false
alone (kept.Whole place) = terminal.Busy false
alone (kept.Busy on) = terminal.Busy on
alone (kept.Service on) = terminal.Service on
alone (kept.Subsystem on) = terminal.Subsystem on
alone (kept.Fault on) = terminal.Fault on
alone (kept.Control on) = terminal.Control on
alone (kept.Vector word) = terminal.Vector word
alone (kept.SelfTest word) = terminal.SelfTest word
alone (kept.Illegal mark) = terminal.Illegal mark
alone (kept.Legal mark) = terminal.Legal mark
alone (kept.Response gap) = terminal.Response gap
alone (kept.Deaf line on) = terminal.Deaf line on
alone (kept.Mute line on) = terminal.Mute line on
alone (kept.IllegalMode mark) = terminal.IllegalMode mark
alone (kept.LegalMode mark) = terminal.LegalMode mark
alone (kept.Broadcast on) = terminal.Broadcast on
alone (kept.Power on) = terminal.Power on
alone (kept.BitWord word) = terminal.BitWord word
alone kept.ServiceOnce = terminal.ServiceOnce
alone (kept.Gap gap) = terminal.Gap gap
alone (kept.Ramp ramp) = terminal.Ramp ramp

-- the action that is kept in a row with an address
abbrev pub action_of : BesideLists → ℕ → KeptAction → HostAction
action_of beside address (kept.Put place) = Terminal address (terminal.Transmit (words_beside beside place))
action_of beside address (kept.Insert place) = Controller (Insert (insert_beside beside place))
action_of beside address (kept.Whole place) = whole_beside beside place
action_of beside address k = Terminal address (alone k)

-- a subaddress that a host puts words up for, or a place of a list beside the rows
abbrev pub IsKeptAction : BesideLists → KeptAction → Type 0
IsKeptAction beside (kept.Word sub word) = (1 ≤ sub) × (sub ≤ highest_put_up)
IsKeptAction beside (kept.Put place) = place < length beside.words
IsKeptAction beside (kept.Insert place) = place < length beside.inserts
IsKeptAction beside (kept.Whole place) = place < length beside.wholes
IsKeptAction beside _ = Unit {0}

-- nothing of it stands beside the rows
abbrev pub IsAlone : KeptAction → Type 0
IsAlone k = IsKeptAction nothing_beside k

-- the placed action of a row
abbrev pub placed_of : BesideLists → Row → Placed
placed_of beside r = record { number = r.number; action = action_of beside r.address r.kept }

-- the placed actions of rows, in their order
abbrev pub all_placed : BesideLists → List Row → List Placed
all_placed beside rows = map (placed_of beside) rows

abbrev pub IsRow : BesideLists → Row → Type 0
IsRow beside r = IsKeptAction beside r.kept

-- the rows of a number
abbrev pub rows_at : ℕ → List Row → List Row
rows_at number rows = filter (λ (r : Row). r.number == number) rows

-- what the host of the controller asks for, where it sets sources
abbrev pub source_control : Option Control → Option Control
source_control None = None
source_control (Some asked) = if is_source_control asked then Some asked else None
