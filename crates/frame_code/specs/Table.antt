-- The operation table (own choice): what a step of each operation does, in any world that takes messages.
use Rattle.std.specs.Prelude.{ℕ, zero, suc, ◌+◌, ◌-◌, ◌*◌, List, [], ◌∷◌, Bool, false, Option, None, Some, slice_get}
use Rattle.std.specs.Prelude.{if◌then◌else◌}
use Rattle.mil_word.specs.declared.Line.{Line}
use Rattle.mil_word.specs.declared.Line.TheVariants.{A}
use Rattle.mil_message.specs.declared.messages.Message.{Message}
use Rattle.mil_message.specs.World.{World, Point, other_line, sent, asks, now_at, paced_to}
use Rattle.frame_code.specs.declared.Op.{Op}
use Rattle.frame_code.specs.declared.Op.TheVariants.{Halt, Send, Alt, SetGap, Loop, Again, Leave, Jump, Test, JumpFalse}
use Rattle.frame_code.specs.declared.Op.TheVariants.{Call, Return, Begin, Pace}
use Rattle.frame_code.specs.Routines.{main_of, routine_at}

-- an image as plain data: its operations, and the messages that they send, each with its line
pub record Code : Type 0 where
  pub operations : List Op
  pub messages : List (Line × Message)

-- what the controller has beside the point: the place of the next operation, the counters (the top one first), the
-- return places (the latest first), the ticks at which the open frames began (the latest first), the flag, and the line
-- of the last message
pub record Registers : Type 0 where
  pub place : ℕ
  pub counters : List ℕ
  pub returns : List ℕ
  pub frames : List ℕ
  pub flag : Bool
  pub line : Line

pub record Running (State Outcome : Type 0) : Type 0 where
  pub at : Registers
  pub point : Point State Outcome

-- how a step ends; it is stuck at a place with no operation, an empty counter list, a message that is not there, a
-- routine that is not there, an empty list of return places, or an empty list of open frames
pub data Turn (X : Type 0) : Type 0 where
  goes_on : X → Turn X
  halted : Turn X
  stuck : Turn X

-- at the first operation of main; at first the flag is false, and A counts as the last line
abbrev pub start : Code → Registers
start code = record {
  place = main_of code.operations;
  counters = [];
  returns = [];
  frames = [];
  flag = false;
  line = A;
}

abbrev pub at_place : Registers → ℕ → Registers
at_place r i = record r { place = i }

module _ {State Outcome : Type 0} (w : World State Outcome) where
  -- sends a message on the line that is made of its own
  abbrev pub sends : Option (Line × Message) → (Line → Line) → Registers → Point State Outcome
      → Turn (Running State Outcome)
  sends None on r p = stuck
  sends (Some m) on r p = goes_on (record
      { at = record r { place = r.place + 1; line = on m.0 }; point = sent w (on m.0) m.1 p })

  -- the top counter is this after 1 was taken from it: above 0 the loop goes round, at 0 the counter is popped
  abbrev pub counted : ℕ → List ℕ → ℕ → Registers → Point State Outcome → Turn (Running State Outcome)
  counted zero ns i r p = goes_on (record { at = record r { place = r.place + 1; counters = ns }; point = p })
  counted (suc k) ns i r p = goes_on (record { at = record r { place = i; counters = suc k ∷ ns }; point = p })

  abbrev pub turns : List ℕ → ℕ → Registers → Point State Outcome → Turn (Running State Outcome)
  turns [] i r p = stuck
  turns (n ∷ ns) i r p = counted (n - 1) ns i r p

  -- pops the top counter and goes to i
  abbrev pub leaves : List ℕ → ℕ → Registers → Point State Outcome → Turn (Running State Outcome)
  leaves [] i r p = stuck
  leaves (n ∷ ns) i r p = goes_on (record { at = record r { place = i; counters = ns }; point = p })

  -- notes the place behind the call, and goes to the start of the routine
  abbrev pub calls : Option ℕ → Registers → Point State Outcome → Turn (Running State Outcome)
  calls None r p = stuck
  calls (Some i) r p = goes_on (record { at = record r { place = i; returns = (r.place + 1) ∷ r.returns }; point = p })

  -- goes to the latest return place
  abbrev pub comes_back : List ℕ → Registers → Point State Outcome → Turn (Running State Outcome)
  comes_back [] r p = stuck
  comes_back (i ∷ is) r p = goes_on (record { at = record r { place = i; returns = is }; point = p })

  -- closes the frame that was opened last: nothing is sent before its period of h hundreds of µs has passed
  abbrev pub keeps_pace : List ℕ → ℕ → Registers → Point State Outcome → Turn (Running State Outcome)
  keeps_pace [] h r p = stuck
  keeps_pace (b ∷ bs) h r p = goes_on
      (record { at = record r { place = r.place + 1; frames = bs }; point = paced_to w (b + 1000 * h) p })

  -- one row an operation
  abbrev pub act : Option Op → Code → Registers → Point State Outcome → Turn (Running State Outcome)
  act None code r p = stuck
  act (Some Halt) code r p = halted
  act (Some (Send m)) code r p = sends (slice_get code.messages m) (λ l. l) r p
  act (Some (Alt m)) code r p = sends (slice_get code.messages m) (λ l. other_line r.line) r p
  act (Some (SetGap t)) code r p = goes_on (record { at = at_place r (r.place + 1); point = record p { gap = t } })
  act (Some (Loop n)) code r p = goes_on
      (record { at = record r { place = r.place + 1; counters = n ∷ r.counters }; point = p })
  act (Some (Again i)) code r p = turns r.counters i r p
  act (Some (Leave i)) code r p = leaves r.counters i r p
  act (Some (Jump i)) code r p = goes_on (record { at = at_place r i; point = p })
  act (Some (Test k)) code r p = goes_on
      (record { at = record r { place = r.place + 1; flag = asks w k p }; point = p })
  act (Some (JumpFalse i)) code r p = goes_on
      (record { at = at_place r (if r.flag then r.place + 1 else i); point = p })
  act (Some (Call n)) code r p = calls (routine_at code.operations n) r p
  act (Some Return) code r p = comes_back r.returns r p
  act (Some Begin) code r p = goes_on
      (record { at = record r { place = r.place + 1; frames = now_at w p ∷ r.frames }; point = p })
  act (Some (Pace h)) code r p = keeps_pace r.frames h r p

  -- one step of a code
  abbrev pub step : Code → Registers → Point State Outcome → Turn (Running State Outcome)
  step code r p = act (slice_get code.operations r.place) code r p

  abbrev pub then_run : Turn (Running State Outcome) → Running State Outcome
      → (Registers → Point State Outcome → Turn (Running State Outcome)) → Turn (Running State Outcome)
  then_run (goes_on x) here go = go x.at x.point
  then_run halted here go = goes_on here
  then_run stuck here go = stuck

  -- where a run stands after so many steps; after a Halt it stands still
  abbrev pub run : ℕ → Code → Registers → Point State Outcome → Turn (Running State Outcome)
  run zero code r p = goes_on (record { at = r; point = p })
  run (suc n) code r p = then_run (step code r p) (record { at = r; point = p }) (run n code)
