-- The message that a controller sends next, before it is sent.
use Rattle.std.specs.Prelude.{◌≡◌, ◌+◌, ◌<◌, ◌^◌, ◌∷◌, ℕ, false, true, if◌then◌else◌, Option, Some, None}
use Rattle.std.specs.Option.{is_some}
use Rattle.mil_word.specs.declared.Line.{Line}
use Rattle.mil_message.specs.declared.forms.Form.{Form}
use Rattle.mil_bus.specs.Exchange.{BusState, talk_start, now_of, played, held_until}
use Rattle.controller_host.specs.Values.{InsertionValue}
use Rattle.bc_machine.specs.declared.upcoming.Upcoming.{Upcoming}
use Rattle.bc_machine.specs.Controller.{next_bus, own_talk, insertion_talk}
use Rattle.bc_machine.specs.Running.{MachineState, setting, bus_run, waiting, stepped}

-- the bus as a message of the script meets it, and as an inserted one does, which waits for its tick alone
abbrev pub bus_before : MachineState → Option InsertionValue → BusState
bus_before m None = next_bus (setting m) (bus_run m)
bus_before m (Some x) = held_until x.tick (next_bus (setting m) (bus_run m))

-- a message of the script as it is about to be sent: the bus as it meets it, and its talk
pub record IsAbout (m : MachineState) (line : Line) (message : Form) (u : Upcoming) : Type 0 where
  pub bus : u.bus ≡ bus_before m None
  pub gap : u.gap ≡ m.point.gap
  pub talk : u.talk ≡ own_talk (setting m) line message m.point.gap (bus_run m)
  pub inserted : u.inserted ≡ false

-- an inserted one
pub record IsAboutInserted (m : MachineState) (x : InsertionValue) (u : Upcoming) : Type 0 where
  pub bus : u.bus ≡ bus_before m (Some x)
  pub gap : u.gap ≡ m.point.gap
  pub talk : u.talk ≡ insertion_talk (setting m) m.point.gap x (bus_run m)
  pub inserted : u.inserted ≡ true

-- the inserted message that comes next, where one does
abbrev pub ComesInserted : MachineState → Option InsertionValue → Option Upcoming → Type 0
ComesInserted m None None = Unit {0}
ComesInserted m (Some x) (Some u) = IsAboutInserted m x u
ComesInserted m _ _ = ⊥

-- a bus that waits for a tick
abbrev pub held_by : Option ℕ → BusState → BusState
held_by None b = b
held_by (Some tick) b = held_until tick b

-- a message that the next step sends: the bus as it meets it, once the actions placed at it are done; and its talk,
-- which starts at this gap
pub record IsComing (m : MachineState) (u : Upcoming) : Type 0 where
  pub bus : u.bus ≡ bus_before m (waiting m)
  pub clock : now_of u.bus < 2 ^ 60
  pub start : u.talk.start ≡ talk_start u.bus u.gap
  pub talks : (stepped m).point.state.talks ≡ u.talk ∷ m.point.state.talks
  pub number : (stepped m).point.number ≡ m.point.number + 1
  pub inserted : u.inserted ≡ is_some (waiting m)
  pub taken : (stepped m).taken ≡ m.taken + (if u.inserted then 0 else 1)

-- the next step sends nothing: what was played on the bus stands still; at most its least start rises
pub record IsStill (m : MachineState) : Type 0 where
  pub state : played (stepped m).point.state ≡ played m.point.state
  pub number : (stepped m).point.number ≡ m.point.number

abbrev pub Comes : MachineState → Option Upcoming → Type 0
Comes m None = IsStill m
Comes m (Some u) = IsComing m u
