-- Where a run of a code can come, what it costs, and how it ends.
use Rattle.std.specs.Prelude.{◌≡◌, ℕ, zero, suc, ◌+◌, slice_get}
use Rattle.mil_message.specs.World.{World, Point}
use Rattle.frame_code.specs.declared.Op.{Op}
use Rattle.frame_code.specs.Table.{Code, Registers, Running, Turn, goes_on, halted, stuck, start, step, run}
use Rattle.frame_code.specs.Loadable.{IsLoadable}
use Rattle.frame_load.specs.Budget.{cost_of}

module _ {State Outcome : Type 0} (w : World State Outcome) where
  -- a run that starts at this point comes here
  abbrev pub Reaches : Code → Point State Outcome → Running State Outcome → Type 0
  Reaches code from here = (n : ℕ) × (run w n code (start code) from ≡ goes_on here)

  -- from these registers the code comes to a Halt in at most n steps
  pub record HaltsWithin (code : Code) (n : ℕ) (r : Registers) (p : Point State Outcome) : Type 0 where
    pub last : Running State Outcome
    pub comes : run w n code r p ≡ goes_on last
    pub halts : step w code last.at last.point ≡ halted

  -- a step that goes on pays this, and then what is paid behind it; a Halt or a stuck step pays nothing
  abbrev pub pays : Turn (Running State Outcome) → ℕ → (Registers → Point State Outcome → ℕ) → ℕ
  pays (goes_on x) one behind = one + behind x.at x.point
  pays halted one behind = 0
  pays stuck one behind = 0

  -- what the first n steps pay together, each the cost of its operation
  abbrev pub paid : (Op → ℕ) → ℕ → Code → Registers → Point State Outcome → ℕ
  paid cost zero code r p = 0
  paid cost (suc n) code r p =
      pays (step w code r p) (cost_of cost (slice_get code.operations r.place)) (paid cost n code)

-- a fact of each run of a code that keeps the loader's rules
abbrev pub EachLoadable : (S O : Type 0) → (World S O → Code → Point S O → Type 0) → Type 0
EachLoadable S O P = (w : World S O) (code : Code) (from : Point S O) → IsLoadable code → P w code from

-- a fact of each place that a run of a code comes to that keeps the loader's rules
abbrev pub EachReached : (S O : Type 0) → (World S O → Code → Point S O → Running S O → Type 0) → Type 0
EachReached S O P =
    (w : World S O) (code : Code) (from : Point S O) (x : Running S O) → IsLoadable code → Reaches w code from x
    → P w code from x
