-- The controller of a job, on its way and at its end.
use Rattle.std.proofs.Common.{◌≡◌, ℕ, ◌+◌, false, true, List, length, take, refl, sym, ap, ◌∙◌, subst, ⊎_elim, arith}
use Rattle.std.specs.Prelude.{Option, Some, None, slice_get}
use Rattle.std.proofs.lemmas.Bool.{cases_lt}
use Rattle.mil_message.specs.World.{World, Point}
use Rattle.mil_bus.specs.declared.outcomes.Outcome.{Outcome}
use Rattle.mil_bus.specs.Exchange.{BusState, played}
use Rattle.mil_line.specs.Plans.{Planned}
use Rattle.frame_tree.specs.Tree.{Tree}
use Rattle.frame_tree.specs.Bounds.{IsSound}
use Rattle.frame_tree.specs.Meaning.{meaning}
use Rattle.frame_code.specs.declared.Op.TheVariants as op
use Rattle.frame_code.specs.Table.{Code, Registers, Running, Turn, goes_on, halted, stuck, start, step, run}
use Rattle.frame_asm.specs.Shapes.{code_of_tree}
use Rattle.frame_asm.specs.Behaves.{Behaves}
use Rattle.controller_host.specs.Values.{InsertionValue}
use Rattle.bc_machine.specs.declared.placed.Placed.{Placed}
use Rattle.bc_machine.specs.Hosting.{next_insertion}
use Rattle.bc_machine.specs.Controller.{Setting, BusRun, all_count, setting_of, world_of, world_in, inserting_many, drained}
use Rattle.bc_machine.specs.Running.{MachineState, HasEnded, started, unplayed, beginning, bus_run, frames_point, world_in as world_here, most_inserted, turn_of, moved_by, stops_at, waiting, stepped_with, stepped}
use Rattle.bc_machine.specs.UnderWay.{IsUnderWay, IsReached}
use Rattle.bc_machine.proofs.Runs.{run_stays}
use Rattle.bc_machine.proofs.Inserting.{drained_is}
use Rattle.bc_machine.proofs.Reached.{bus_is, is_halt, none_of, turn_is}
use Rattle.job_file.specs.ChannelJobs.{ChannelJob}
use Rattle.job_file.specs.Meaning.{bus_of, setting_at, world_at, end_of, end_in, records_in, records, up_to, bus_after, made_after}
use Rattle.job_file.specs.Machines.{IsOf}
use Rattle.job_file.proofs.Moves.{comes_to}
use Rattle.job_file.proofs.Limits.{Stands, many_agree, run_agrees, stands_to_end}
use Rattle.job_file.proofs.Growth.{Grows, grows_through, grows_many, grows_along, grows_to_end, records_count, records_first}

abbrev pub CodeMeans : Type 0
CodeMeans = (w : World BusRun Outcome) (t : Tree) (p : Point BusRun Outcome) → IsSound t → Behaves w t (code_of_tree t) p

-- a controller's code, plan, actions and bus are the job's
module _ (job : ChannelJob) (placed : List Placed) (code : Code) (plan : List Planned) (actions : List Placed) (same_code : code ≡ code_of_tree job.tree) (same_plan : plan ≡ job.plan)
    (same_actions : actions ≡ placed) where
  way_at : (b : BusState) (n : ℕ) (x : Running BusRun Outcome) → b ≡ bus_of job → run (world_of plan actions (most_inserted code)) n code (start code) (beginning b) ≡ goes_on x
      → run (world_at job placed) n (code_of_tree job.tree) (start (code_of_tree job.tree)) (beginning (bus_of job)) ≡ goes_on x
  way_at b n x same_bus is = rw (same_code, same_plan, same_actions, same_bus) at is

  inserted_at : (n gap : ℕ) (r v : BusRun) → v ≡ inserting_many (setting_of plan actions (most_inserted code)) n gap r → v ≡ inserting_many (setting_at all_count job placed) n gap r
  inserted_at n gap r v is = rw (same_code, same_plan, same_actions) at is

  idle_at : (r : Registers) (n : ℕ) → (stops_at (slice_get code.operations r.place) ≡ false → n ≡ 0) → stops_at (slice_get (code_of_tree job.tree).operations r.place) ≡ false → n ≡ 0
  idle_at r n is = rw same_code at is

  halts_at : (r : Registers) (p : Point BusRun Outcome) → step (world_of plan actions (most_inserted code)) code r p ≡ halted → step (world_at job placed) (code_of_tree job.tree) r p ≡ halted
  halts_at r p is = rw (same_code, same_plan, same_actions) at is

module _ (job : ChannelJob) (placed : List Placed) (m : MachineState) (of : IsOf job placed m) where
  abbrev code : Code
  code = code_of_tree job.tree

  abbrev most : ℕ
  most = most_inserted code

  abbrev s : Setting
  s = setting_at all_count job placed

  abbrev first : Point BusRun Outcome
  first = beginning (bus_of job)

  abbrev r : IsReached m
  r = of.under_way.reached

  -- where its code's run stands, in front of the messages that were inserted there
  abbrev here : Running BusRun Outcome
  here = record { at = m.at; point = r.point }

  way : run (world_at job placed) m.taken code (start code) first ≡ goes_on here
  way = way_at job placed m.code m.plan m.placed of.code of.plan of.actions m.begun m.taken here of.begun r.run

  bus_here : bus_run m ≡ inserting_many s r.count r.point.gap r.point.state
  bus_here = inserted_at job placed m.code m.plan m.placed of.code of.plan of.actions r.count r.point.gap r.point.state (bus_run m) (bus_is m r)

  idle : stops_at (slice_get code.operations m.at.place) ≡ false → r.count ≡ 0
  idle = idle_at job placed m.code m.plan m.placed of.code of.plan of.actions m.at r.count r.idle

  grown : Grows (unplayed (bus_of job)) (bus_run m)
  grown =
      let along : Grows (unplayed (bus_of job)) r.point.state = grows_along job.plan placed most code m.taken (start code) first here way in
      subst (Grows (unplayed (bus_of job))) (sym bus_here)
      (grows_through (unplayed (bus_of job)) r.point.state (inserting_many s r.count r.point.gap r.point.state) along (grows_many job.plan placed most r.count r.point.gap r.point.state))

  -- as many records as messages
  pub counted : m.point.number ≡ length (records_in m.point.state)
  counted = of.under_way.number ∙ records_count (unplayed (bus_of job)) (bus_run m) refl refl grown

  module _ (means : CodeMeans) (sound : IsSound job.tree) where
    abbrev b : Behaves (world_at job placed) job.tree code first
    b = means (world_at job placed) job.tree first sound

    -- where the script leads
    abbrev last : Running BusRun Outcome
    last = record { at = b.last; point = meaning (world_at job placed) job.tree first }

    pub so_far : records_in m.point.state ≡ take m.point.number (records job placed)
    so_far =
        let left = comes_to (world_at job placed) code m.taken b.steps (start code) first here last way b.comes b.halts in
        let more : Grows (inserting_many s r.count r.point.gap r.point.state) (end_of job placed).state = grows_to_end job.plan placed most code left.0 here last r.count left.1 idle in
        records_first (unplayed (bus_of job)) (bus_run m) (end_of job placed).state refl refl grown (subst (λ (v : BusRun). Grows v (end_of job placed).state) (sym bus_here) more)
        ∙ ap (λ n. take n (records job placed)) (sym of.under_way.number)

    -- where it has ended, it stands where the script leads, behind all that waited
    pub ended : HasEnded m → bus_run m ≡ (end_of job placed).state
    ended e =
        let w = world_at job placed in
        let halts : step w code m.at r.point ≡ halted = halts_at job placed m.code m.plan m.placed of.code of.plan of.actions m.at r.point (turn_is m r e.none ∙ e.halts) in
        let one : goes_on here ≡ goes_on last =
        ⊎_elim (λ less. sym (run_stays w code m.taken b.steps (start code) first here halts way (omega (arith, less))) ∙ b.comes)
        (λ le. sym way ∙ run_stays w code b.steps m.taken (start code) first last b.halts b.comes le) (cases_lt m.taken b.steps) in
        let same : here ≡ last = cc in
        let stops : stops_at (slice_get m.code.operations m.at.place) ≡ true = ap stops_at (halt_there e) in
        let none : next_insertion placed most (bus_run m).made ≡ None = rw (of.code, of.actions) at (none_of m r e.none stops) in
        let settled : next_insertion placed most (inserting_many s r.count r.point.gap r.point.state).made ≡ None = ap (λ (v : BusRun). next_insertion placed most v.made) (sym bus_here) ∙ none in
        bus_here ∙ sym (drained_is job.plan placed most r.count r.point.gap r.point.state settled)
        ∙ ap (λ (v : Running BusRun Outcome). drained s v.point.gap v.point.state) same
      where
        halt_there : HasEnded m → slice_get m.code.operations m.at.place ≡ Some op.Halt
        halt_there e = is_halt (world_here m) (slice_get m.code.operations m.at.place) m.code m.at (frames_point m) e.halts

    pub all_records : HasEnded m → records_in m.point.state ≡ records job placed
    all_records e = ap (λ (v : BusRun). records_in v.bus) (ended e)

    -- where only the messages so far count, the script leads to what was played and made so far
    still : (played (end_in (setting_at (up_to m.point.number) job placed) job).state.bus ≡ played m.point.state)
        × ((end_in (setting_at (up_to m.point.number) job placed) job).state.made ≡ m.made)
    still =
        let k = m.point.number in
        let t : Setting = setting_at (up_to k) job placed in
        let c : Behaves (world_in t) job.tree code first = means (world_in t) job.tree first sound in
        let lead : Running BusRun Outcome = record { at = c.last; point = meaning (world_in t) job.tree first } in
        let number : k ≡ length m.made = of.under_way.number in
        let sent : length m.made ≡ length r.point.state.made + r.count = r.sent in
        let long : length m.made ≡ length (inserting_many s r.count r.point.gap r.point.state).made = ap (λ (v : BusRun). length v.made) bus_here in
        let alike : run (world_in t) m.taken code (start code) first ≡ goes_on here = run_agrees job.plan placed most k code m.taken (start code) first here way (omega (arith, number, sent)) in
        let left = comes_to (world_in t) code m.taken c.steps (start code) first here lead alike c.comes c.halts in
        let same : inserting_many t r.count r.point.gap r.point.state ≡ bus_run m = many_agree job.plan placed most k r.count r.point.gap r.point.state (omega (arith, number, long)) ∙ sym bus_here in
        let stands : Stands job.plan placed most k (inserting_many t r.count r.point.gap r.point.state) (end_in t job).state = stands_to_end job.plan placed most k code left.0 here lead r.count left.1 idle in
        let now : Stands job.plan placed most k (bus_run m) (end_in t job).state = subst (λ (v : BusRun). Stands job.plan placed most k v (end_in t job).state) same stands in
        now (omega (arith, number))

    pub bus_so_far : played m.point.state ≡ bus_after job placed m.point.number
    bus_so_far = sym still.0

    pub made_so_far : m.made ≡ made_after job placed m.point.number
    made_so_far = sym still.1

kept : (t : Turn (Running BusRun Outcome)) (m : MachineState)
    → ((moved_by t m).code ≡ m.code) × ((moved_by t m).plan ≡ m.plan) × ((moved_by t m).placed ≡ m.placed) × ((moved_by t m).begun ≡ m.begun)
kept (goes_on x) m = (refl, refl, refl, refl)
kept halted m = (refl, refl, refl, refl)
kept stuck m = (refl, refl, refl, refl)

pub kept_with : (o : Option InsertionValue) (m : MachineState)
    → ((stepped_with o m).code ≡ m.code) × ((stepped_with o m).plan ≡ m.plan) × ((stepped_with o m).placed ≡ m.placed) × ((stepped_with o m).begun ≡ m.begun)
kept_with None m = kept (turn_of m) m
kept_with (Some x) m = (refl, refl, refl, refl)

-- a step leaves a controller the job's
pub stays : (job : ChannelJob) (placed : List Placed) (m : MachineState) → IsOf job placed m → IsUnderWay (stepped m) → IsOf job placed (stepped m)
unfolding stepped
stays job placed m of under_way =
    let k = kept_with (waiting m) m in
    record { code = k.0 ∙ of.code; plan = k.1 ∙ of.plan; actions = k.2 ∙ of.actions; begun = k.3 ∙ of.begun; under_way = under_way }

-- the controller that a job starts
pub starts_as : (job : ChannelJob) (placed : List Placed) (m : MachineState) → m ≡ started (code_of_tree job.tree) (bus_of job) job.plan placed → IsUnderWay m → IsOf job placed m
starts_as job placed m is under_way = record {
  code = ap (λ (v : MachineState). v.code) is;
  plan = ap (λ (v : MachineState). v.plan) is;
  actions = ap (λ (v : MachineState). v.placed) is;
  begun = ap (λ (v : MachineState). v.begun) is;
  under_way = under_way;
}
