-- What a controller's host has asked for, as plain data: the placed actions and the messages made; and what the queue's
-- cursor and the sources stand for.
use Rattle.std.specs.Prelude.{◌≡◌, ℕ, ◌+◌, ◌-◌, ◌<◌, ◌≤◌, true, List, [], ◌∷◌, ◌++◌, length, take, slice_get, Some}
use Rattle.std.specs.Prelude.{IsSome}
use Rattle.std.specs.List.{filter_map}
use Rattle.controller_host.specs.declared.destinations.Destination.{Destination}
use Rattle.controller_host.specs.declared.sources.Row.{Row as SourceRow}
use Rattle.controller_host.specs.Values.{InsertionValue}
use Rattle.controller_host.specs.Destinations.{IsPlace}
use Rattle.controller_host.specs.Sources.{AreRows, source_in}
use Rattle.bc_machine.specs.declared.placed.Placed.{Placed}
use Rattle.bc_machine.specs.declared.agenda.Agenda.TheInside.{Inside}
use Rattle.bc_machine.specs.declared.agenda.SavedAgenda.{SavedAgenda}
use Rattle.bc_machine.specs.declared.agenda.Cursor.{Cursor}
use Rattle.bc_machine.specs.MadeMessages.{MadeMessage}
use Rattle.bc_machine.specs.Hosting.{placed_at, placed_up_to, insertion_of, inserted_in, source_at}
use Rattle.bc_machine.specs.Schedules.{HaveRoom}

pub record AgendaState : Type 0 where
  pub placed : List Placed
  -- for how many actions there is room, those that are placed among them
  pub capacity : ℕ
  -- the messages made, in their order
  pub made : List MadeMessage

abbrev pub agenda_in : Inside → AgendaState
agenda_in a = record {
  placed = a.placed.actions ++ a.posted.actions;
  capacity = length a.placed.actions + a.posted.capacity;
  made = a.made;
}

-- the actions in front of a cursor, in the order of their numbers
abbrev pub in_front : Cursor → List Placed → List Placed
in_front c placed = placed_up_to (c.number - 1) placed ++ take c.passed (placed_at c.number placed)

abbrev pub inserts_among : List Placed → List InsertionValue
inserts_among placed = filter_map (λ (p : Placed). insertion_of p.action) placed

-- a cursor stands behind the inserts that were sent, and in front of all others
pub record IsCursor (c : Cursor) (placed : List Placed) (made : List MadeMessage) : Type 0 where
  pub first : 1 ≤ c.number
  pub number : c.number ≤ length made + 1
  pub passed : c.passed ≤ length (placed_at c.number placed)
  pub sent : length (inserts_among (in_front c placed)) ≡ inserted_in made

-- it stands in front of the next of them
pub record IsHead (c : Cursor) (placed : List Placed) (made : List MadeMessage) : Type 0 where
  pub cursor : IsCursor c placed made
  pub one : Placed
  pub there : slice_get (placed_at c.number placed) c.passed ≡ Some one
  pub inserts : IsSome (insertion_of one.action)

abbrev pub with_capacity : AgendaState → ℕ → AgendaState
with_capacity a capacity = record { placed = a.placed; capacity = capacity; made = a.made }

-- one message more
abbrev pub with_message : AgendaState → MadeMessage → AgendaState
with_message a message = record { placed = a.placed; capacity = a.capacity; made = a.made ++ message ∷ [] }

-- rows stand for the sources that were set by the messages made
abbrev pub StandsForSources : List SourceRow → List Placed → List MadeMessage → Type 0
StandsForSources rows placed made = (d : Destination) (place : ℕ) → IsPlace d place
    → source_in rows d place ≡ source_at (length made) placed made d place

pub record IsAgenda (a : Inside) : Type 0 where
  pub number : a.number ≡ length a.made
  pub inserted : a.inserted ≡ inserted_in a.made
  pub cursor : IsCursor a.cursor (agenda_in a).placed a.made
  pub sources : StandsForSources a.placed.sources.rows (agenda_in a).placed a.made
  -- where later actions are placed, or may be, there is room for the sources that they set
  pub ready : length a.posted.actions < a.posted.capacity → a.placed.sources.ready ≡ true
  pub sets : HaveRoom a.placed.sources.ready (agenda_in a).placed

-- what is kept, of these placed actions
pub record IsSavedAgenda (placed : List Placed) (s : SavedAgenda) : Type 0 where
  pub number : s.number ≡ length s.made
  pub inserted : s.inserted ≡ inserted_in s.made
  pub cursor : IsCursor s.cursor placed s.made
  pub rows : AreRows s.sources.items
  pub sources : StandsForSources s.sources.items placed s.made
