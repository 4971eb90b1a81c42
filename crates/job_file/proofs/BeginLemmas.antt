-- The run of a job with lines by time and by command, at its beginning, and the job at its end.
use Rattle.std.proofs.Common.{◌≡◌, ℕ, zero, suc, ◌+◌, ◌≤◌, true, false, List, [], length, refl, sym, ap, subst, ◌∙◌, arith, inl, inr, ◌⊎◌}
use Rattle.std.specs.Prelude.{Bool, cond, max}
use Rattle.std.specs.List.{list_all}
use Rattle.std.proofs.lemmas.List.{length-map}
use Rattle.mil_line.specs.Plans.{Planned}
use Rattle.mil_line.specs.Ranges.{is_in_range}
use Rattle.frame_tree.specs.Bounds.{IsSound}
use Rattle.bc_machine.specs.declared.placed.Placed.{Placed}
use Rattle.bc_machine.specs.Running.{HasEnded, MachineState, started}
use Rattle.bc_machine.specs.Posting.{with_room}
use Rattle.bc_machine.specs.UnderWay.{IsUnderWay}
use Rattle.job_moments.specs.declared.met.Met.{Met}
use Rattle.job_moments.specs.Planning.{PlannedFault, PlanState}
use Rattle.job_file.specs.declared.timed.TimedAction.{TimedAction}
use Rattle.job_file.specs.declared.job_run.JobRun.{JobRun}
use Rattle.job_file.specs.ChannelJobs.{ChannelJob}
use Rattle.job_file.specs.JobRanges.{may_act, IsFitTimed}
use Rattle.job_file.specs.Jobs.{JobState, own_inserts, job_in}
use Rattle.job_file.specs.Resolving.{standing, when_of, IsAtEnd, IsKept, IsWithin, IsPlannedUpTo, MayPlan}
use Rattle.job_file.specs.Timed.{Standing, made_of, at_beginning, begun_beside, found_in, planned_in, run_out, resolved, plan_under, says_nothing, arranged, faulted, turned, turned_times, most_turns}
use Rattle.job_file.specs.Machines.{AllRecords, IsOf}
use Rattle.job_file.specs.Meaning.{bus_of, records, records_in}
use Rattle.frame_asm.specs.Shapes.{code_of_tree}
use Rattle.job_file.proofs.RunLemmas.{run_out_is}
use Rattle.job_file.proofs.TurnLemmas.{same_arranged, same_stepped}
use Rattle.job_file.specs.TimedLines.{Timed, timed_inserts}

chosen_in_range : (b : Bool) (faults : List PlannedFault) → list_all (λ (p : PlannedFault). is_in_range p.fault) faults ≡ true → list_all (λ (p : PlannedFault). is_in_range p.fault) (cond b faults []) ≡ true
chosen_in_range true faults h = h
chosen_in_range false faults h = refl

abbrev the_standing : List TimedAction → MachineState → Standing
the_standing w m = record { left = w; machine = m }

abbrev the_plan : List PlannedFault → List Met → PlanState
the_plan faults made = record { faults = faults; made = made }

pub kept_at_start : (r : JobRun) (more : ℕ) (base : ChannelJob) (timed : Timed) → standing r ≡ begun_beside more base timed → IsUnderWay r.machine
    → r.whens.made ≡ [] → r.faults ≡ record { faults = found_in timed; made = [] } → r.origin ≡ base.start
    → list_all (λ (p : PlannedFault). is_in_range p.fault) timed.faults ≡ true → IsKept r
kept_at_start r more base timed stands way met faults origin ranges =
    let machine : r.machine ≡ (begun_beside more base timed).machine = ap (λ (s : Standing). s.machine) stands in
    let none : made_of r.machine ≡ [] = ap made_of machine in
    let number : r.machine.point.number ≡ 0 = ap (λ (m : MachineState). m.point.number) machine in
    let capacity : r.machine.capacity ≡ max (length base.actions) (length base.actions + (length timed.whens + more)) = ap (λ (m : MachineState). m.capacity) machine in
    let placed : length r.machine.placed ≡ length base.actions = ap (λ (m : MachineState). length m.placed) machine in
    let left : length r.whens.left ≡ length timed.whens = sym (length-map r.whens.left when_of) ∙ ap (λ (s : Standing). length s.left) stands in
    record {
      under_way = way;
      made = met ∙ sym none;
      met = ap (λ (p : PlanState). p.made) faults ∙ sym none;
      number = ap length none ∙ sym number;
      origin = ap (λ (m : MachineState). m.begun.start) machine ∙ sym origin;
      room = omega (arith, capacity, placed, left);
      ranges = ap (λ (p : PlanState). list_all (λ (q : PlannedFault). is_in_range q.fault) p.faults) faults ∙ chosen_in_range timed.is_timed timed.faults ranges;
    }

-- what is known of the faults that are found on the way
pub planned_are : (p : PlanState) (faults : List PlannedFault) → p.faults ≡ faults → p.made ≡ [] → p ≡ record { faults = faults; made = [] }
planned_are p faults same none =
    ap (λ (fs : List PlannedFault). the_plan fs p.made) same ∙ ap (λ (ms : List Met). the_plan faults ms) none

begins : (b : Bool) (faults found : List PlannedFault) (plan planned : List Planned) (number : ℕ) → found ≡ cond b faults [] → planned ≡ cond b [] plan → (found ≡ []) ⊎ IsPlannedUpTo number planned
begins true faults found plan planned number e f = let none : length planned ≡ 0 = ap length f in inr (λ k d within. absurd (omega (arith, within, none)))
begins false faults found plan planned number e f = inl e

-- what a run begins with is the beginning
pub begins_as : (w : List TimedAction) (m m0 : MachineState) (plan : List Planned) (count more : ℕ) (base : ChannelJob) (timed : Timed)
    → w ≡ timed.whens → count ≡ length w + more → plan ≡ planned_in base timed
    → m0 ≡ started (code_of_tree base.tree) (bus_of base) plan base.actions → m ≡ with_room m0 count
    → the_standing w m ≡ begun_beside more base timed
begins_as w m m0 plan count more base timed whens counts plans starts rooms =
    ap (λ (v : MachineState). the_standing w v) rooms
    ∙ ap (λ (v : MachineState). the_standing w (with_room v count)) starts
    ∙ ap (λ (p : List Planned). the_standing w (with_room (started (code_of_tree base.tree) (bus_of base) p base.actions) count)) plans
    ∙ ap (λ (n : ℕ). the_standing w (with_room (started (code_of_tree base.tree) (bus_of base) (planned_in base timed) base.actions) n)) counts
    ∙ ap (λ (l : List TimedAction). the_standing l (with_room (started (code_of_tree base.tree) (bus_of base) (planned_in base timed) base.actions) (length l + more))) whens

pub may_plan_at_start : (r : JobRun) (more : ℕ) (base : ChannelJob) (timed : Timed) → standing r ≡ begun_beside more base timed → r.faults.faults ≡ found_in timed → MayPlan r
may_plan_at_start r more base timed stands faults =
    begins timed.is_timed timed.faults r.faults.faults base.plan r.machine.plan r.machine.point.number faults (ap (λ (s : Standing). s.machine.plan) stands)

pub within_at_start : (s : Standing) (base : JobState) (timed : Timed) (most : ℕ) → s ≡ at_beginning (job_in base) timed → list_all (may_act base.addresses) base.actions ≡ true
    → IsFitTimed base.addresses timed → own_inserts base.actions + timed_inserts timed.whens ≤ most → IsWithin base.addresses most s
within_at_start s base timed most is acts fit few =
    subst (λ (v : Standing). IsWithin base.addresses most v) (sym is) (record { placed = acts; left = fit.whens; few = few })

-- with no room for more it is that of the job itself
pub begins_at : (s : Standing) (base : ChannelJob) (timed : Timed) (placed : List Placed) (whens : List TimedAction)
    → s ≡ begun_beside 0 (record base { actions = placed }) (record timed { whens = whens })
    → s ≡ at_beginning (record base { actions = placed }) (record timed { whens = whens })
begins_at s base timed placed whens is =
    let none : length whens + 0 ≡ length whens = omega arith in
    is ∙ ap (λ n. the_standing whens (with_room (started (code_of_tree base.tree) (bus_of base) (planned_in base timed) placed) n)) none

pub begins_at_said : (s : Standing) (base : ChannelJob) (timed : Timed) (placed : List Placed) (whens : List TimedAction)
    → s ≡ begun_beside 0 (record base { actions = placed }) (record timed { whens = whens })
    → placed ≡ base.actions → whens ≡ timed.whens → s ≡ at_beginning base timed
begins_at_said s base timed placed whens is acts left =
    begins_at s base timed placed whens is
    ∙ ap (λ (ps : List Placed). at_beginning (record base { actions = ps }) (record timed { whens = whens })) acts
    ∙ ap (λ (ws : List TimedAction). at_beginning base (record timed { whens = ws })) left

-- ---- where all actions are placed already

pub under_found : (base : ChannelJob) (timed : Timed) (placed : List Placed) (m : MachineState) (plan : List Planned) → timed.is_timed ≡ true
    → run_out (record base { actions = placed }) (record timed { whens = [] }) ≡ m → plan ≡ m.plan → plan ≡ plan_under base timed placed
under_found base timed placed m plan says is plans =
    plans ∙ ap (λ (v : MachineState). v.plan) (sym is)
    ∙ sym (ap (λ (b : Bool). cond b (run_out (record base { actions = placed }) (record timed { whens = [] })).plan base.plan) says)

pub under_same : (base : ChannelJob) (timed : Timed) (placed : List Placed) → timed.is_timed ≡ false → base.plan ≡ plan_under base timed placed
under_same base timed placed says =
    sym (ap (λ (b : Bool). cond b (run_out (record base { actions = placed }) (record timed { whens = [] })).plan base.plan) says)

-- ---- the job at the end

pub resolved_is : (base : ChannelJob) (timed : Timed) (m : MachineState) → says_nothing timed ≡ false → run_out base timed ≡ m → record base { actions = m.placed; plan = m.plan } ≡ resolved base timed
resolved_is base timed m says is =
    ap (λ (v : MachineState). record base { actions = v.placed; plan = v.plan }) (sym is)
    ∙ sym (ap (λ (b : Bool). record base {
      actions = cond b base.actions (run_out base timed).placed;
      plan = cond b base.plan (run_out base timed).plan;
    }) says)

pub resolved_same : (base : ChannelJob) (timed : Timed) → says_nothing timed ≡ true → base ≡ resolved base timed
resolved_same base timed says =
    sym (ap (λ (b : Bool). record base {
      actions = cond b base.actions (run_out base timed).placed;
      plan = cond b base.plan (run_out base timed).plan;
    }) says)

-- ---- the records

pub record IsOfJob (base : ChannelJob) (m : MachineState) : Type 0 where
  pub code : m.code ≡ code_of_tree base.tree
  pub begun : m.begun ≡ bus_of base

of_faulted : (base : ChannelJob) (faults : List PlannedFault) (m : MachineState) → IsOfJob base m → IsOfJob base (faulted faults m)
unfolding faulted
of_faulted base faults m of = record { code = of.code; begun = of.begun }

of_turned : (base : ChannelJob) (faults : List PlannedFault) (s : Standing) → IsOfJob base s.machine → IsOfJob base (turned faults s).machine
unfolding turned
of_turned base faults s of =
    let same = same_arranged s in
    let here : IsOfJob base (arranged s).machine = record { code = same.code ∙ of.code; begun = same.begun ∙ of.begun } in
    let there = of_faulted base faults (arranged s).machine here in
    let steps = same_stepped (faulted faults (arranged s).machine) in
    record { code = steps.code ∙ there.code; begun = steps.begun ∙ there.begun }

of_times : (base : ChannelJob) (faults : List PlannedFault) (n : ℕ) (s : Standing) → IsOfJob base s.machine → IsOfJob base (turned_times n faults s).machine
of_times base faults zero s of = of
of_times base faults (suc n) s of = of_turned base faults (turned_times n faults s) (of_times base faults n s of)

-- the controller at the end of the run is the job's
pub is_of : (base : ChannelJob) (timed : Timed) (m : MachineState) → run_out base timed ≡ m → IsUnderWay m → IsOf (record base { actions = m.placed; plan = m.plan }) m.placed m
unfolding run_out
is_of base timed m is way =
    let of = of_times base (found_in timed) (most_turns base) (at_beginning base timed) (record { code = refl; begun = refl }) in
    record {
      code = ap (λ (v : MachineState). v.code) (sym is) ∙ of.code;
      plan = refl;
      actions = refl;
      begun = ap (λ (v : MachineState). v.begun) (sym is) ∙ of.begun;
      under_way = way;
    }

-- ---- what resolving gives, where some line is by time or by command

-- a run that began so and came to its end is the one that is meant
pub run_gives : (base : ChannelJob) (timed : Timed) (from to : Standing) (faults : List PlannedFault)
    → from ≡ at_beginning base timed → faults ≡ found_in timed → IsAtEnd faults from to → run_out base timed ≡ to.machine
run_gives base timed from to faults begin found end =
    run_out_is base timed to (subst (λ (fs : List PlannedFault). IsAtEnd fs (at_beginning base timed) to) found (subst (λ (s : Standing). IsAtEnd faults s to) begin end))

module _ (base : ChannelJob) (timed : Timed) (m : MachineState) (actions : List Placed) (plan : List Planned)
    (is : run_out base timed ≡ m) (acts : actions ≡ m.placed) (plans : plan ≡ m.plan) where
  pub job_gives : says_nothing timed ≡ false → record base { actions = actions; plan = plan } ≡ resolved base timed
  job_gives says =
      ap (λ (a : List Placed). record base { actions = a; plan = plan }) acts
      ∙ ap (λ (p : List Planned). record base { actions = m.placed; plan = p }) plans
      ∙ resolved_is base timed m says is

  pub records_give : AllRecords → IsSound base.tree → IsUnderWay m → HasEnded m
      → records_in (run_out base timed).point.state ≡ records (record base { actions = actions; plan = plan }) actions
  records_give all sound way ended =
      ap (λ (v : MachineState). records_in v.point.state) is
      ∙ all (record base { actions = m.placed; plan = m.plan }) m.placed m sound (is_of base timed m is way) ended
      ∙ ap (λ (p : List Planned). records (record base { actions = m.placed; plan = p }) m.placed) (sym plans)
      ∙ ap (λ (a : List Placed). records (record base { actions = a; plan = plan }) a) (sym acts)

  pub acts_fit : (addresses : List ℕ) (most : ℕ) (left : List TimedAction) → IsWithin addresses most (the_standing left m) → list_all (may_act addresses) actions ≡ true
  acts_fit addresses most left within = ap (list_all (may_act addresses)) acts ∙ within.placed

  pub acts_few : (addresses : List ℕ) (most worst : ℕ) (left : List TimedAction) → IsWithin addresses most (the_standing left m) → most + worst ≤ 1000000 → own_inserts actions + worst ≤ 1000000
  acts_few addresses most worst left within few =
      let same : own_inserts actions ≡ own_inserts m.placed = ap own_inserts acts in
      omega (arith, same, within.few, few)
