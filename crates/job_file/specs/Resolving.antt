-- What the run of a job with lines by time and by command keeps.
use Rattle.std.specs.Prelude.{◌≡◌, ℕ, ◌+◌, ◌-◌, ◌≤◌, true, [], ◌∷◌, ◌++◌, List, length, map, All, ◌⊎◌}
use Rattle.std.specs.Prelude.{Option, Some, None}
use Rattle.std.specs.List.{list_all}
use Rattle.mil_line.specs.Plans.{Planned}
use Rattle.mil_line.specs.Ranges.{is_in_range}
use Rattle.frame_load.specs.Budget.{budget}
use Rattle.bc_machine.specs.Running.{MachineState, HasEnded}
use Rattle.bc_machine.specs.UnderWay.{IsUnderWay}
use Rattle.job_moments.specs.declared.met.Met.{Met}
use Rattle.job_moments.specs.Planning.{PlannedFault}
use Rattle.job_moments.specs.Waits.{Awaited, Waits}
use Rattle.job_file.specs.declared.timed.TimedAction.{TimedAction}
use Rattle.job_file.specs.declared.job_run.Due.{Due}
use Rattle.job_file.specs.declared.job_run.JobRun.{JobRun}
use Rattle.job_file.specs.JobRanges.{is_for, may_act}
use Rattle.job_file.specs.Jobs.{own_inserts}
use Rattle.job_file.specs.Timed.{Standing, made_of, coming_met, turned_times}
use Rattle.job_file.specs.TimedLines.{timed_inserts}

-- an action that is still to come, as the text has it
abbrev pub when_of : Awaited Due → TimedAction
when_of a = record { moment = a.moment; action = a.payload.action }

abbrev pub whens_left : Waits Due → List TimedAction
whens_left w = map when_of w.left

-- where it stands
abbrev pub standing : JobRun → Standing
standing r = record { left = whens_left r.whens; machine = r.machine }

-- there is room for the actions that are still to come; all messages were met
pub record IsKept (r : JobRun) : Type 0 where
  pub under_way : IsUnderWay r.machine
  pub made : r.whens.made ≡ made_of r.machine
  pub met : r.faults.made ≡ made_of r.machine
  pub number : length (made_of r.machine) ≡ r.machine.point.number
  pub origin : r.machine.begun.start ≡ r.origin
  pub room : length r.machine.placed + length r.whens.left ≤ r.machine.capacity
  pub ranges : list_all (λ (p : PlannedFault). is_in_range p.fault) r.faults.faults ≡ true

-- of a job with these terminals: each action is of one of them, and at most so many messages are inserted
pub record IsWithin (addresses : List ℕ) (most : ℕ) (s : Standing) : Type 0 where
  pub placed : list_all (may_act addresses) s.machine.placed ≡ true
  pub left : list_all (λ (w : TimedAction). is_for addresses w.action) s.left ≡ true
  pub few : own_inserts s.machine.placed + timed_inserts s.left ≤ most

-- no fault is planned behind the message of a number
abbrev pub IsPlannedUpTo : ℕ → List Planned → Type 0
IsPlannedUpTo number plan = All (λ (p : Planned). p.0 ≤ number) plan

-- the number behind a step, with the message that it sends
abbrev pub number_behind : Option Met → ℕ → ℕ
number_behind None number = number
number_behind (Some next) number = number + 1

-- and the messages made
abbrev pub made_behind : Option Met → List Met → List Met
made_behind None made = made
made_behind (Some next) made = made ++ next ∷ []

-- faults of messages to come are planned from the beginning on, or as they come
abbrev pub MayPlan : JobRun → Type 0
MayPlan r = (r.faults.faults ≡ []) ⊎ IsPlannedUpTo r.machine.point.number r.machine.plan

-- and so behind the next step
abbrev pub HasPlanned : JobRun → Type 0
HasPlanned r = (r.faults.faults ≡ [])
    ⊎ IsPlannedUpTo (number_behind (coming_met r.machine) r.machine.point.number) r.machine.plan

-- how many turns it takes at most, but for the last
abbrev pub turns_left : MachineState → ℕ
turns_left m = (budget m.code.operations - m.taken) + (1000000 - m.point.number)

-- from where it stood so many turns led to its end
pub record IsAtEnd (faults : List PlannedFault) (old new : Standing) : Type 0 where
  pub turns : ℕ
  pub is : new ≡ turned_times turns faults old
  pub few : turns ≤ turns_left old.machine + 1
  pub ended : HasEnded new.machine
