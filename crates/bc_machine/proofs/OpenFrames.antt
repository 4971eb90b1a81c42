-- The open frames of a controller over a step.
use Rattle.std.proofs.Common.{ℕ, zero, suc, ◌-◌, ◌≤◌, List, [], ◌∷◌, arith}
use Rattle.std.specs.Prelude.{slice_get, Option, Some, None}
use Rattle.std.specs.List.{AllByRecursion}
use Rattle.mil_word.specs.declared.Line.{Line}
use Rattle.mil_message.specs.declared.messages.Message.{Message}
use Rattle.mil_message.specs.World.{other_line}
use Rattle.frame_code.specs.declared.Op.{Op}
use Rattle.frame_code.specs.declared.Op.TheVariants.{Halt, Send, Alt, SetGap, Loop, Again, Leave, Jump, Test, JumpFalse, Call, Return, Begin, Pace}
use Rattle.frame_code.specs.Table.{act, sends, turns, counted, leaves, calls, comes_back, keeps_pace}
use Rattle.frame_code.specs.Routines.{routine_at}
use Rattle.controller_host.specs.Values.{InsertionValue}
use Rattle.bc_machine.specs.Running.{MachineState, world_in, moved_by, frames_point, waiting, stepped_with, stepped, clock_in}
use Rattle.bc_machine.specs.Frames.{HaveBegun}

-- all of them are at most this tick
abbrev Before : ℕ → List ℕ → Type 0
Before c bs = AllByRecursion (λ b. b ≤ c) bs

later : (bs : List ℕ) (c d : ℕ) → c ≤ d → Before c bs → Before d bs
later [] c d le h = tt
later (b ∷ bs) c d le h = (omega (arith, le, h.0), later bs c d le h.1)

module _ (m : MachineState) (c : ℕ) (now : clock_in m ≤ c) (all : Before c m.at.frames) where
  -- after these rows too
  sends_before : (o : Option (Line × Message)) (on : Line → Line) → Before c (moved_by (sends (world_in m) o on m.at (frames_point m)) m).at.frames
  sends_before None on = all
  sends_before (Some x) on = all

  counted_before : (k : ℕ) (ns : List ℕ) (i : ℕ) → Before c (moved_by (counted (world_in m) k ns i m.at (frames_point m)) m).at.frames
  counted_before zero ns i = all
  counted_before (suc k) ns i = all

  turns_before : (ns : List ℕ) (i : ℕ) → Before c (moved_by (turns (world_in m) ns i m.at (frames_point m)) m).at.frames
  turns_before [] i = all
  turns_before (n ∷ ns) i = counted_before (n - 1) ns i

  leaves_before : (ns : List ℕ) (i : ℕ) → Before c (moved_by (leaves (world_in m) ns i m.at (frames_point m)) m).at.frames
  leaves_before [] i = all
  leaves_before (n ∷ ns) i = all

  calls_before : (o : Option ℕ) → Before c (moved_by (calls (world_in m) o m.at (frames_point m)) m).at.frames
  calls_before None = all
  calls_before (Some i) = all

  backs_before : (is : List ℕ) → Before c (moved_by (comes_back (world_in m) is m.at (frames_point m)) m).at.frames
  backs_before [] = all
  backs_before (i ∷ is) = all

  paces_before : (bs : List ℕ) (h : ℕ) → Before c bs → Before c (moved_by (keeps_pace (world_in m) bs h m.at (frames_point m)) m).at.frames
  paces_before [] h before = all
  paces_before (b ∷ bs) h before = before.1

  act_before : (o : Option Op) → Before c (moved_by (act (world_in m) o m.code m.at (frames_point m)) m).at.frames
  act_before None = all
  act_before (Some Halt) = all
  act_before (Some (Send i)) = sends_before (slice_get m.code.messages i) (λ l. l)
  act_before (Some (Alt i)) = sends_before (slice_get m.code.messages i) (λ l. other_line m.at.line)
  act_before (Some (SetGap t)) = all
  act_before (Some (Loop n)) = all
  act_before (Some (Again i)) = turns_before m.at.counters i
  act_before (Some (Leave i)) = leaves_before m.at.counters i
  act_before (Some (Jump i)) = all
  act_before (Some (Test k)) = all
  act_before (Some (JumpFalse i)) = all
  act_before (Some (Call n)) = calls_before (routine_at m.code.operations n)
  act_before (Some Return) = backs_before m.at.returns
  act_before (Some Begin) = (now, all)
  act_before (Some (Pace h)) = paces_before m.at.frames h all

begun_with : (m : MachineState) (o : Option InsertionValue) → clock_in m ≤ clock_in (stepped_with o m) → HaveBegun m → HaveBegun (stepped_with o m)
begun_with m None now h = act_before m (clock_in (stepped_with None m)) now (later m.at.frames (clock_in m) (clock_in (stepped_with None m)) now h) (slice_get m.code.operations m.at.place)
begun_with m (Some x) now h = later m.at.frames (clock_in m) (clock_in (stepped_with (Some x) m)) now h

pub begun_next : (m : MachineState) → clock_in m ≤ clock_in (stepped m) → HaveBegun m → HaveBegun (stepped m)
unfolding stepped
begun_next m now h = begun_with m (waiting m) now h
