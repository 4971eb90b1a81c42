-- The world that the controller runs in (own choice): a real bus, the faults that are planned for its messages, the
-- actions of the terminals' hosts, each placed at a message, and what its own host asks for.
use Rattle.std.specs.Prelude.{ℕ, zero, suc, ◌+◌, ◌-◌, Bool, true, if◌then◌else◌, List, [], ◌∷◌, ◌++◌, length}
use Rattle.std.specs.Prelude.{Option}
use Rattle.std.specs.Prelude.{Some, None}
use Rattle.mil_word.specs.Fields.{has_bit}
use Rattle.mil_word.specs.declared.Line.{Line}
use Rattle.mil_status.specs.Status.{place_of}
use Rattle.mil_message.specs.World.{World}
use Rattle.mil_message.specs.declared.forms.Form.{Form}
use Rattle.mil_message.specs.declared.outcome_test.OutcomeTest.{OutcomeTest}
use Rattle.mil_message.specs.declared.outcome_test.OutcomeTest.TheVariants.{Failed, Silent, Bit}
use Rattle.mil_line.specs.Plans.{Planned, faults_of}
use Rattle.mil_bus.specs.declared.talks.Talk.{Talk}
use Rattle.mil_bus.specs.declared.outcomes.Outcome.{Outcome}
use Rattle.mil_bus.specs.BlockStatus.{outcome_of}
use Rattle.mil_bus.specs.Exchange.{BusState, exchanged, talk_of, now_of, paced, held_until}
use Rattle.mil_bus.specs.Actions.{acted}
use Rattle.controller_host.specs.declared.controls.Control.{Control}
use Rattle.controller_host.specs.Values.{InsertionValue}
use Rattle.bc_machine.specs.declared.placed.Placed.{Placed}
use Rattle.bc_machine.specs.declared.placed.HostAction.{HostAction}
use Rattle.bc_machine.specs.declared.placed.HostAction.TheVariants.{Terminal, Controller}
use Rattle.bc_machine.specs.MadeMessages.{MadeMessage, own, inserted}
use Rattle.bc_machine.specs.Hosting.{inserted_in, next_insertion, sent_form}
pub use Rattle.bc_machine.specs.Hosting.{placed_at}

-- what the host of a terminal asks for acts on the bus
abbrev pub host_acted : BusState → HostAction → BusState
host_acted b (Terminal address action) = acted b address action
host_acted b (Controller asked) = b

abbrev pub control_in : HostAction → Option Control
control_in (Terminal address action) = None
control_in (Controller asked) = Some asked

-- what the host of the controller asks for
abbrev pub control_of : Placed → Option Control
control_of p = control_in p.action

-- a bus after these actions, one after the other
abbrev pub all_acted : BusState → List Placed → BusState
all_acted b [] = b
all_acted b (p ∷ ps) = all_acted (host_acted b p.action) ps

-- the bus as the message of a number meets it
unfoldable pub ready : List Placed → ℕ → BusState → BusState
ready placed number b = all_acted b (placed_at number placed)

-- what a program learns of a talk
abbrev pub outcome_in : Talk → Outcome
outcome_in talk = outcome_of talk.message talk.sent.items

-- whether an outcome passes a test
abbrev pub holds : OutcomeTest → Outcome → Bool
holds Failed o = o.failed
holds Silent o = o.silent
holds (Bit b) o = has_bit (place_of b) o.bits

-- what a controller's messages meet: the planned faults, the placed actions, how many messages are inserted at most,
-- and which numbers count: a message of another leaves no trace
pub record Setting : Type 0 where
  pub plan : List Planned
  pub placed : List Placed
  pub most : ℕ
  pub counts : ℕ → Bool

-- what frames run on: the bus, and the messages that were made on it; the message of a number is made behind as many as
-- are below it
pub record BusRun : Type 0 where
  pub bus : BusState
  pub made : List MadeMessage

module _ (s : Setting) where
  abbrev next_number : BusRun → ℕ
  next_number r = length r.made + 1

  -- the bus as the next message meets it
  abbrev pub next_bus : BusRun → BusState
  next_bus r = ready s.placed (next_number r) r.bus

  -- one message more, where its number counts
  abbrev pub with_made : BusRun → BusState → MadeMessage → BusRun
  with_made r bus made =
      if s.counts (next_number r) then (record { bus = bus; made = r.made ++ made ∷ [] }) else r

  -- the talk of an inserted message: not before its tick, whatever the frames' periods ask for
  abbrev pub insertion_talk : ℕ → InsertionValue → BusRun → Talk
  insertion_talk gap x r =
      talk_of (held_until x.tick (next_bus r)) x.line x.message gap (faults_of (next_number r) s.plan)

  -- the bus behind it, whose least start is as it was
  abbrev pub insertion_bus : ℕ → InsertionValue → BusRun → BusState
  insertion_bus gap x r = held_until r.bus.least_start
      (exchanged (held_until x.tick (next_bus r)) x.line x.message gap (faults_of (next_number r) s.plan))

  abbrev pub with_insertion : ℕ → InsertionValue → BusRun → BusRun
  with_insertion gap x r = with_made r (insertion_bus gap x r) inserted

  abbrev pub inserted_next : ℕ → Option InsertionValue → BusRun → BusRun
  inserted_next gap None r = r
  inserted_next gap (Some x) r = with_insertion gap x r

  -- one message of the queue, where one is there
  abbrev pub inserting : ℕ → BusRun → BusRun
  inserting gap r = inserted_next gap (next_insertion s.placed s.most r.made) r

  abbrev pub inserting_many : ℕ → ℕ → BusRun → BusRun
  inserting_many zero gap r = r
  inserting_many (suc n) gap r = inserting_many n gap (inserting gap r)

  -- all messages that wait, and those that actions ask for meanwhile, as many as may still be inserted
  unfoldable pub drained : ℕ → BusRun → BusRun
  drained gap r = inserting_many (s.most - inserted_in r.made) gap r

  -- a message of the script: the actions placed at its number, then its exchange with the faults planned for its number
  abbrev pub own_talk : Line → Form → ℕ → BusRun → Talk
  own_talk line form gap r =
      talk_of (next_bus r) line (sent_form s.placed r.made form) gap (faults_of (next_number r) s.plan)

  abbrev pub own_bus : Line → Form → ℕ → BusRun → BusState
  own_bus line form gap r =
      exchanged (next_bus r) line (sent_form s.placed r.made form) gap (faults_of (next_number r) s.plan)

  abbrev pub with_own : Line → Form → ℕ → BusRun → BusRun
  with_own line form gap r = with_made r (own_bus line form gap r) (own form)

  -- the world of frames: the messages that wait go in front of the script's. It numbers messages by those that were
  -- made, and does not look at the number that frames count.
  abbrev pub world_in : World BusRun Outcome
  world_in = record {
    exchange = λ number line message gap r. (
      with_own line message gap (drained gap r),
      outcome_in (own_talk line message gap (drained gap r)),
    );
    holds = holds;
    now = λ r. now_of r.bus;
    paced = λ tick r. record { bus = paced tick r.bus; made = r.made };
  }

-- every number counts
abbrev pub all_count : ℕ → Bool
all_count number = true

abbrev pub setting_of : List Planned → List Placed → ℕ → Setting
setting_of plan placed most = record { plan = plan; placed = placed; most = most; counts = all_count }

abbrev pub world_of : List Planned → List Placed → ℕ → World BusRun Outcome
world_of plan placed most = world_in (setting_of plan placed most)
