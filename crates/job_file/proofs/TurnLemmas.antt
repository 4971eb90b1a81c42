-- One turn of a run of a job with lines by time and by command.
use Rattle.std.proofs.Common.{◌≡◌, ◌≢◌, ℕ, zero, suc, ◌+◌, ◌<◌, List, [], ◌∷◌, ◌++◌, length, map, refl, sym, ap, subst, ◌∙◌, arith, ◌⊎◌}
use Rattle.std.specs.Prelude.{Option, Some, None, reverse, slice_get}
use Rattle.std.specs.Option.{option_map}
use Rattle.std.proofs.lemmas.List.{map-append, reverse-append}
use Rattle.mil_line.specs.declared.faults.Fault.{Fault}
use Rattle.mil_line.specs.Plans.{Planned}
use Rattle.mil_bus.specs.declared.outcomes.Outcome.{Outcome}
use Rattle.mil_bus.specs.declared.talks.Talk.{Talk}
use Rattle.mil_bus.specs.Exchange.{BusState}
use Rattle.frame_code.specs.Table.{Code, Running, Turn, goes_on, halted, stuck}
use Rattle.frame_load.specs.Budget.{budget}
use Rattle.controller_host.specs.Values.{InsertionValue}
use Rattle.bc_machine.specs.declared.Stepped.{Stepped}
use Rattle.bc_machine.specs.declared.Stepped.TheVariants.{Ran, Sent, Inserted, Halted}
use Rattle.bc_machine.specs.Controller.{BusRun}
use Rattle.bc_machine.specs.NextMessage.{coming_talk, in_advance, Makes, NextMessageIsSent, FaultsAreNotTold}
use Rattle.bc_machine.specs.Running.{MachineState, moved_by, turn_of, waiting, stepped, stepped_with}
use Rattle.bc_machine.specs.UnderWay.{IsUnderWay, TellsStep}
use Rattle.job_moments.specs.declared.met.Met.{Met}
use Rattle.job_moments.specs.Planning.{PlannedFault}
use Rattle.job_file.specs.declared.timed.TimedAction.{TimedAction}
use Rattle.std.specs.List.{list_all}
use Rattle.job_file.specs.JobRanges.{is_for, may_act}
use Rattle.job_file.specs.Jobs.{own_inserts}
use Rattle.job_file.specs.TimedLines.{timed_inserts}
use Rattle.job_file.specs.Resolving.{IsWithin, IsPlannedUpTo, number_behind, made_behind, turns_left}
use Rattle.job_file.specs.Timed.{Standing, met_of, made_of, coming_met, due_now, done_at, done_times, arranged, with_faults, faulted, turned, with_action_now}
use Rattle.job_file.proofs.DueLemmas.{stands}
use Rattle.job_file.proofs.Fewness.{few}

-- ---- what a step keeps

pub record IsSameJob (m n : MachineState) : Type 0 where
  pub code : n.code ≡ m.code
  pub plan : n.plan ≡ m.plan
  pub placed : n.placed ≡ m.placed
  pub capacity : n.capacity ≡ m.capacity
  pub begun : n.begun ≡ m.begun

moved_same : (t : Turn (Running BusRun Outcome)) (m : MachineState) → IsSameJob m (moved_by t m)
moved_same (goes_on x) m = record { code = refl; plan = refl; placed = refl; capacity = refl; begun = refl }
moved_same halted m = record { code = refl; plan = refl; placed = refl; capacity = refl; begun = refl }
moved_same stuck m = record { code = refl; plan = refl; placed = refl; capacity = refl; begun = refl }

same_with : (o : Option InsertionValue) (m : MachineState) → IsSameJob m (stepped_with o m)
same_with None m = moved_same (turn_of m) m
same_with (Some x) m = record { code = refl; plan = refl; placed = refl; capacity = refl; begun = refl }

pub same_stepped : (m : MachineState) → IsSameJob m (stepped m)
unfolding stepped
same_stepped m = same_with (waiting m) m

one_behind : (f : Talk → Met) (talk : Talk) (talks : List Talk) → map f (reverse (talk ∷ talks)) ≡ map f (reverse talks) ++ f talk ∷ []
one_behind f talk talks = ap (map f) (reverse-append (talk ∷ []) talks) ∙ map-append f (reverse talks) (talk ∷ [])

made_with : (m n : MachineState) (talks : List Talk) → n.begun ≡ m.begun → n.point.state.talks ≡ talks → made_of n ≡ map (met_of m.begun.start) (reverse talks)
made_with m n talks begun e =
    ap (λ (b : BusState). map (met_of b.start) (reverse n.point.state.talks)) begun ∙ ap (λ (ts : List Talk). map (met_of m.begun.start) (reverse ts)) e

-- the messages made, and their number, behind a step
pub record IsBehind (next : Option Met) (m n : MachineState) : Type 0 where
  pub made : made_of n ≡ made_behind next (made_of m)
  pub number : n.point.number ≡ number_behind next m.point.number

by_talk : (m : MachineState) (o : Option Talk) → Makes m o → IsBehind (option_map (met_of m.begun.start) o) m (stepped m)
by_talk m None still = record {
  made = made_with m (stepped m) m.point.state.talks (same_stepped m).begun (ap (λ (b : BusState). b.talks) still.state);
  number = still.number;
}
by_talk m (Some talk) sent = record {
  made = made_with m (stepped m) (talk ∷ m.point.state.talks) (same_stepped m).begun sent.talks ∙ one_behind (met_of m.begun.start) talk m.point.state.talks;
  number = sent.number;
}

pub behind_step : NextMessageIsSent → (m n : MachineState) → IsUnderWay m → n ≡ stepped m → IsBehind (coming_met m) m n
behind_step law m n way is = subst (λ (v : MachineState). IsBehind (coming_met m) m v) (sym is) (by_talk m (coming_talk m) (law m way))

-- ---- how many turns are left

budget_same : (m n : MachineState) → n.code ≡ m.code → budget n.code.operations ≡ budget m.code.operations
budget_same m n e = ap (λ (v : Code). budget v.operations) e

pub less_left : (m n : MachineState) (r : Stepped) → n ≡ stepped m → TellsStep m n r → r ≢ Halted → IsUnderWay n → turns_left n < turns_left m
less_left m n Ran is tells not way =
    let code = budget_same m n (ap (λ (v : MachineState). v.code) is ∙ (same_stepped m).code) in
    omega (arith, code, tells.taken, tells.number, way.steps, few n way)
less_left m n (Sent r) is tells not way =
    let code = budget_same m n (ap (λ (v : MachineState). v.code) is ∙ (same_stepped m).code) in
    omega (arith, code, tells.taken, tells.message.number, way.steps, few n way)
less_left m n (Inserted r) is tells not way =
    let code = budget_same m n (ap (λ (v : MachineState). v.code) is ∙ (same_stepped m).code) in
    omega (arith, code, tells.taken, tells.message.number, way.steps, few n way)
less_left m n Halted is tells not way = absurd (not refl)

-- ---- what arranging keeps

pub record IsSameButActions (m n : MachineState) : Type 0 where
  pub code : n.code ≡ m.code
  pub plan : n.plan ≡ m.plan
  pub begun : n.begun ≡ m.begun
  pub taken : n.taken ≡ m.taken
  pub number : n.point.number ≡ m.point.number

same_action : (o : Option TimedAction) (m : MachineState) → IsSameButActions m (with_action_now o m)
same_action None m = record { code = refl; plan = refl; begun = refl; taken = refl; number = refl }
same_action (Some w) m = record { code = refl; plan = refl; begun = refl; taken = refl; number = refl }

same_done : (o : Option ℕ) (s : Standing) → IsSameButActions s.machine (done_at o s).machine
same_done None s = record { code = refl; plan = refl; begun = refl; taken = refl; number = refl }
same_done (Some place) s = same_action (slice_get s.left place) s.machine

same_times : (n : ℕ) (s : Standing) → IsSameButActions s.machine (done_times n s).machine
same_times zero s = record { code = refl; plan = refl; begun = refl; taken = refl; number = refl }
same_times (suc n) s =
    let one = same_done (due_now (done_times n s)) (done_times n s) in
    let rest = same_times n s in
    record {
      code = one.code ∙ rest.code;
      plan = one.plan ∙ rest.plan;
      begun = one.begun ∙ rest.begun;
      taken = one.taken ∙ rest.taken;
      number = one.number ∙ rest.number;
    }

pub same_arranged : (s : Standing) → IsSameButActions s.machine (arranged s).machine
unfolding arranged
same_arranged s = same_times (length s.left) s

-- ---- a turn

pub turned_is : (faults : List PlannedFault) (s a b : Standing) (m n : MachineState) → a ≡ arranged s → m ≡ faulted faults a.machine → n ≡ stepped m → b ≡ stands a.left n → b ≡ turned faults s
unfolding turned
turned_is faults s a b m n arranging faulting stepping is =
    is
    ∙ ap (λ (v : MachineState). stands a.left v) (stepping ∙ ap stepped faulting)
    ∙ ap (λ (v : Standing). stands v.left (stepped (faulted faults v.machine))) arranging

-- as many turns are left behind what is due in front of a step
pub turns_same : (faults : List PlannedFault) (s : Standing) → turns_left (faulted faults (arranged s).machine) ≡ turns_left s.machine
unfolding faulted
turns_same faults s =
    let same = same_arranged s in
    let code = budget_same s.machine (arranged s).machine same.code in
    omega (arith, code, same.taken, same.number)

-- what is placed stays, and what is still to come
pub within_stepped : (addresses : List ℕ) (most : ℕ) (faults : List PlannedFault) (a b : Standing) → b.left ≡ a.left → b.machine ≡ stepped (faulted faults a.machine) → IsWithin addresses most a → IsWithin addresses most b
unfolding faulted
within_stepped addresses most faults a b left machine within =
    let placed : b.machine.placed ≡ a.machine.placed = ap (λ (m : MachineState). m.placed) machine ∙ (same_stepped (faulted faults a.machine)).placed in
    record {
      placed = ap (list_all (may_act addresses)) placed ∙ within.placed;
      left = ap (list_all (λ (w : TimedAction). is_for addresses w.action)) left ∙ within.left;
      few = omega (arith, ap own_inserts placed, ap timed_inserts left, within.few);
    }

-- ---- what is planned

-- planned in front of a step, where a message comes next, is planned behind it
pub has_planned_still : (faults : List PlannedFault) (m : MachineState) → coming_met m ≡ None → (faults ≡ []) ⊎ IsPlannedUpTo m.point.number m.plan
    → (faults ≡ []) ⊎ IsPlannedUpTo (number_behind (coming_met m) m.point.number) m.plan
has_planned_still faults m comes planned =
    subst (λ (o : Option Met). (faults ≡ []) ⊎ IsPlannedUpTo (number_behind o m.point.number) m.plan) (sym comes) planned

pub may_plan_still : (faults : List PlannedFault) (m n : MachineState) → coming_met m ≡ None → n ≡ m → (faults ≡ []) ⊎ IsPlannedUpTo (number_behind (coming_met m) m.point.number) m.plan
    → (faults ≡ []) ⊎ IsPlannedUpTo n.point.number n.plan
may_plan_still faults m n comes is planned =
    subst (λ (v : MachineState). (faults ≡ []) ⊎ IsPlannedUpTo v.point.number v.plan) (sym is)
    (subst (λ (o : Option Met). (faults ≡ []) ⊎ IsPlannedUpTo (number_behind o m.point.number) m.plan) comes planned)

pub may_plan_arranged : (faults : List PlannedFault) (s a : Standing) → a ≡ arranged s → (faults ≡ []) ⊎ IsPlannedUpTo s.machine.point.number s.machine.plan
    → (faults ≡ []) ⊎ IsPlannedUpTo a.machine.point.number a.machine.plan
may_plan_arranged faults s a is planned =
    let same = same_arranged s in
    let plan : a.machine.plan ≡ s.machine.plan = ap (λ (v : Standing). v.machine.plan) is ∙ same.plan in
    let number : a.machine.point.number ≡ s.machine.point.number = ap (λ (v : Standing). v.machine.point.number) is ∙ same.number in
    subst (λ k. (faults ≡ []) ⊎ IsPlannedUpTo k a.machine.plan) (sym number) (subst (λ (ps : List Planned). (faults ≡ []) ⊎ IsPlannedUpTo s.machine.point.number ps) (sym plan) planned)

-- faults do not change whether a message comes next
number_told : (a b : Option Talk) (f g : Talk → Met) (k : ℕ) → option_map in_advance a ≡ option_map in_advance b → number_behind (option_map f a) k ≡ number_behind (option_map g b) k
number_told None None f g k e = refl
number_told None (Some y) f g k e = absurd cc
number_told (Some x) None f g k e = absurd cc
number_told (Some x) (Some y) f g k e = refl

pub has_planned_some : FaultsAreNotTold → (faults : List PlannedFault) (m n : MachineState) (next : Met) (due : List Fault) → coming_met m ≡ Some next → n ≡ with_faults m due
    → (faults ≡ []) ⊎ IsPlannedUpTo (m.point.number + 1) (with_faults m due).plan → (faults ≡ []) ⊎ IsPlannedUpTo (number_behind (coming_met n) n.point.number) n.plan
has_planned_some law faults m n next due comes is planned =
    let to = with_faults m due in
    let told : option_map in_advance (coming_talk to) ≡ option_map in_advance (coming_talk m) = law m to.plan in
    let same : number_behind (coming_met to) m.point.number ≡ number_behind (coming_met m) m.point.number =
    number_told (coming_talk to) (coming_talk m) (met_of to.begun.start) (met_of m.begun.start) m.point.number told in
    let more : number_behind (coming_met m) m.point.number ≡ m.point.number + 1 = ap (λ (o : Option Met). number_behind o m.point.number) comes in
    subst (λ (v : MachineState). (faults ≡ []) ⊎ IsPlannedUpTo (number_behind (coming_met v) v.point.number) v.plan) (sym is)
    (subst (λ k. (faults ≡ []) ⊎ IsPlannedUpTo k to.plan) (sym (same ∙ more)) planned)
