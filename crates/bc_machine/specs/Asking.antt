-- What the host of the controller asks for among placed actions.
use Rattle.std.specs.Prelude.{◌≡◌, ℕ, ◌≤◌, true, List, [], ◌∷◌, take, slice_get, Option, Some}
use Rattle.std.specs.List.{filter_map}
use Rattle.mil_message.specs.declared.forms.Form.{Form}
use Rattle.controller_host.specs.declared.destinations.Destination.{Destination}
use Rattle.controller_host.specs.declared.controls.Control.{Control}
use Rattle.controller_host.specs.declared.sources.Source.{Source}
use Rattle.controller_host.specs.declared.sources.Row.{Row as SourceRow}
use Rattle.controller_host.specs.Values.{InsertionValue}
use Rattle.controller_host.specs.Sources.{set_by, sourced, with_sources}
use Rattle.bc_machine.specs.declared.placed.Placed.{Placed}
use Rattle.bc_machine.specs.Agendas.{inserts_among}
use Rattle.bc_machine.specs.Controller.{control_of}
use Rattle.bc_machine.specs.Hosting.{insertion_of, placed_at}
use Rattle.bc_machine.specs.Schedules.{ScheduleState}

-- the first insert of these actions behind so many of them, and how many stand in front of it
pub record IsInsertAt (actions : List Placed) (passed place : ℕ) (x : InsertionValue) : Type 0 where
  pub order : passed ≤ place
  pub one : Placed
  pub there : slice_get actions place ≡ Some one
  pub inserts : insertion_of one.action ≡ Some x
  pub none : inserts_among (take place actions) ≡ inserts_among (take passed actions)

-- what the host of the controller asks for at the message of a number, in its order
abbrev pub controls_at : ℕ → List Placed → List Control
controls_at number placed = filter_map control_of (placed_at number placed)

-- a source, where the host then asks for these
abbrev pub with_controls : List Control → Option Source → Destination → ℕ → Option Source
with_controls [] was d place = was
with_controls (c ∷ cs) was d place = with_controls cs (with_sources c was d place) d place

-- a message with the words that these ask for in the place of its own, one after the other
abbrev pub filled_by : List Control → Form → Form
filled_by [] form = form
filled_by (c ∷ cs) form = filled_by cs (sourced (set_by c) form)

abbrev pub with_rows : ScheduleState → List SourceRow → ScheduleState
with_rows s rows = record {
  actions = s.actions;
  capacity = s.capacity;
  sources = record { rows = rows; ready = s.sources.ready };
}

abbrev pub with_ready : ScheduleState → ScheduleState
with_ready s = record {
  actions = s.actions;
  capacity = s.capacity;
  sources = record { rows = s.sources.rows; ready = true };
}

-- words with these in the place of the first ones
abbrev pub put_over : List ℕ → List ℕ → List ℕ
put_over [] own = own
put_over (w ∷ ws) [] = []
put_over (w ∷ ws) (o ∷ os) = w ∷ put_over ws os
