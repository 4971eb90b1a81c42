-- What one message adds to the faults that met nothing.
use Rattle.std.proofs.Common.{◌≡◌, ℕ, suc, ◌+◌, ◌-◌, List, ◌∷◌, [], ◌++◌, length, refl, ap, ap₂, ◌∙◌, sym, add-one}
use Rattle.std.specs.Prelude.{not, Option, Some, None}
use Rattle.std.specs.List.{filter}
use Rattle.mil_line.specs.Plans.{Planned, faults_of}
use Rattle.mil_bus.specs.Exchange.{BusState, played}
use Rattle.mil_bus.specs.declared.talks.Talk.{Talk}
use Rattle.mil_line.specs.declared.faults.Fault.{Fault}
use Rattle.frame_tree.specs.Bounds.{IsSound}
use Rattle.bc_machine.specs.declared.upcoming.Upcoming.{Upcoming}
use Rattle.bc_machine.specs.declared.placed.Placed.{Placed}
use Rattle.bc_machine.specs.declared.placed.HostAction.{HostAction}
use Rattle.bc_machine.specs.declared.placed.HostAction.TheVariants.{Terminal, Controller}
use Rattle.controller_host.specs.Values.{InsertionValue}
use Rattle.bc_machine.specs.Controller.{placed_at, host_acted, all_acted, ready}
use Rattle.bc_machine.specs.Running.{MachineState, waiting, stepped}
use Rattle.bc_machine.specs.Coming.{IsComing, IsStill, bus_before}
use Rattle.job_file.specs.Jobs.{JobState, tree_in, job_in}
use Rattle.job_file.specs.Machines.{IsOf, BusSoFar}
use Rattle.bench_check.specs.Meeting.{meets_something, sent_under}
use Rattle.bench_check.specs.Unmet.{bus_at, met_behind, unmet_of, unmet_behind, unmet_up_to, numbered, planned_behind, made, unmet}

-- the actions of hosts leave the least start of a bus alone, and have nothing to do with it
host_played : (x : HostAction) (b : BusState) → host_acted (played b) x ≡ played (host_acted b x)
host_played (Terminal address action) b = refl
host_played (Controller asked) b = refl

all_played : (ps : List Placed) (b : BusState) → all_acted (played b) ps ≡ played (all_acted b ps)
all_played [] b = refl
all_played (p ∷ ps) b = ap (λ (v : BusState). all_acted v ps) (host_played p.action b) ∙ all_played ps (host_acted b p.action)

ready_played : (ps : List Placed) (n : ℕ) (b : BusState) → ready ps n (played b) ≡ played (ready ps n b)
unfolding ready
ready_played ps n b = all_played (placed_at n ps) b

-- nor does the tick that an inserted message waits for
before_played : (m : MachineState) (o : Option InsertionValue) → m.point.number ≡ length m.made → played (bus_before m o) ≡ ready m.placed (m.point.number + 1) (played m.point.state)
before_played m None counts = ap (λ n. played (ready m.placed (n + 1) m.point.state)) (sym counts) ∙ sym (ready_played m.placed (m.point.number + 1) m.point.state)
before_played m (Some x) counts = ap (λ n. played (ready m.placed (n + 1) m.point.state)) (sym counts) ∙ sym (ready_played m.placed (m.point.number + 1) m.point.state)

-- so it has none to do with what faults meet
unmet_played : (b : BusState) (ts : List Talk) (faults : List Fault) → unmet_of (played b) ts faults ≡ unmet_of b ts faults
unfolding sent_under
unmet_played b [] faults = refl
unmet_played b (t ∷ ts) faults = refl

-- the faults of a message that is coming and meet nothing are those that the definition has
coming_is : BusSoFar → (job : JobState) (m n : MachineState) (u : Upcoming) → IsSound (tree_in job) → IsOf (job_in job) job.actions m → IsOf (job_in job) job.actions n → n ≡ stepped m → IsComing m u
    → unmet_behind job m.point.number ≡ numbered (m.point.number + 1) (filter (λ f. not (meets_something u.bus u.talk (faults_of (m.point.number + 1) job.plan) f)) (faults_of (m.point.number + 1) job.plan))
unfolding unmet_behind
coming_is so_far job m n u sound of next is h =
    let k = m.point.number in
    let faults = faults_of (k + 1) job.plan in
    let here : played m.point.state ≡ bus_at job k = so_far (job_in job) job.actions m sound of in
    let number : n.point.number ≡ k + 1 = ap (λ (z : MachineState). z.point.number) is ∙ h.number in
    let then : played n.point.state ≡ bus_at job (k + 1) = so_far (job_in job) job.actions n sound next ∙ ap (bus_at job) number in
    let met : met_behind job k ≡ played u.bus =
    sym (ap played h.bus ∙ before_played m (waiting m) of.under_way.number ∙ ap₂ (λ ps b. ready ps (k + 1) b) of.actions here) in
    let talks : (bus_at job (k + 1)).talks ≡ u.talk ∷ m.point.state.talks = ap (λ (b : BusState). b.talks) (sym then) ∙ ap (λ (z : MachineState). z.point.state.talks) is ∙ h.talks in
    ap (numbered (k + 1)) (ap₂ (λ b ts. unmet_of b ts faults) met talks ∙ unmet_played u.bus (u.talk ∷ m.point.state.talks) faults)

-- one more message
pub one_more : BusSoFar → (job : JobState) (m n : MachineState) (u : Upcoming) (number : ℕ) (old new : List Planned) → IsSound (tree_in job) → IsOf (job_in job) job.actions m → IsOf (job_in job) job.actions n → n ≡ stepped m → IsComing m u
    → number ≡ m.point.number + 1 → old ≡ unmet_up_to job m.point.number
    → new ≡ old ++ numbered number (filter (λ f. not (meets_something u.bus u.talk (faults_of number job.plan) f)) (faults_of number job.plan))
    → new ≡ unmet_up_to job n.point.number
one_more so_far job m n u number old new sound of next is h counted so_far_unmet adds =
    let k = m.point.number in
    let next_number : n.point.number ≡ suc k = ap (λ (z : MachineState). z.point.number) is ∙ h.number ∙ add-one k in
    let this : numbered number (filter (λ f. not (meets_something u.bus u.talk (faults_of number job.plan) f)) (faults_of number job.plan)) ≡ unmet_behind job k =
    ap (λ i. numbered i (filter (λ f. not (meets_something u.bus u.talk (faults_of i job.plan) f)) (faults_of i job.plan))) counted ∙ sym (coming_is so_far job m n u sound of next is h) in
    adds ∙ ap₂ (λ xs ys. xs ++ ys) so_far_unmet this ∙ sym (ap (unmet_up_to job) next_number)

-- a step that sends nothing
pub no_more : (job : JobState) (m n : MachineState) (items : List Planned) → n ≡ stepped m → IsStill m → items ≡ unmet_up_to job m.point.number → items ≡ unmet_up_to job n.point.number
no_more job m n items is h so_far = so_far ∙ sym (ap (unmet_up_to job) (ap (λ (z : MachineState). z.point.number) is ∙ h.number))

-- once all messages were sent, those of the messages that never are
pub all_unmet : (job : JobState) (items old : List Planned) (plan : List Planned) (n k : ℕ) → old ≡ unmet_up_to job n → n ≡ k → k ≡ made job → plan ≡ job.plan → items ≡ old ++ planned_behind plan k (1000000 - k) → items ≡ unmet job
all_unmet job items old plan n k so_far same all planned is =
    is ∙ ap₂ (λ xs ys. xs ++ ys) (so_far ∙ ap (unmet_up_to job) (same ∙ all)) (ap₂ (λ p i. planned_behind p i (1000000 - i)) planned all)
