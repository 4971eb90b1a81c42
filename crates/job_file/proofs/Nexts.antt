-- The next record of a controller.
use Rattle.std.proofs.Common.{◌≡◌, ℕ, ◌+◌, ◌-◌, ◌≤◌, ◌<◌, List, [], ◌∷◌, ◌++◌, length, take, drop, map, refl, sym, ap, ◌∙◌, subst, append_assoc, arith, ◌⊎◌, inl, inr}
use Rattle.std.specs.Prelude.{Some, slice_get, reverse}
use Rattle.std.proofs.lemmas.List.{take-append-drop, map-append, reverse-append}
use Rattle.mil_bus.specs.declared.talks.Talk.{Talk}
use Rattle.ch11_f1.specs.declared.Record.{Record}
use Rattle.mil_monitor.specs.Observed.{observed}
use Rattle.frame_tree.specs.Bounds.{IsSound}
use Rattle.frame_load.specs.Budget.{budget}
use Rattle.frame_code.specs.Table.{Code}
use Rattle.bc_machine.specs.declared.placed.Placed.{Placed}
use Rattle.bc_machine.specs.Running.{MachineState, HasEnded, waiting, stepped, ended_in}
use Rattle.bc_machine.specs.declared.Stepped.{Stepped}
use Rattle.bc_machine.specs.declared.Stepped.TheVariants.{Sent, Inserted}
use Rattle.bc_machine.specs.UnderWay.{IsUnderWay, IsMessage, IsSent, IsInserted, TellsStep}
use Rattle.job_file.specs.ChannelJobs.{ChannelJob}
use Rattle.job_file.specs.Meaning.{records_in, records}
use Rattle.job_file.specs.Machines.{IsOf, IsLatestOutcome, latest_outcome, StaysMachineOf, RecordsSoFar, AllRecords, CountsMessagesSent}
use Rattle.job_file.proofs.JobRuns.{kept_with}

at_place : (xs ys : List Record) (x : Record) → slice_get (xs ++ x ∷ ys) (length xs) ≡ Some x
at_place [] ys x = refl
at_place (z ∷ xs) ys x = at_place xs ys x

one_behind : (talk : Talk) (talks : List Talk) → map observed (reverse (talk ∷ talks)) ≡ map observed (reverse talks) ++ observed talk ∷ []
one_behind talk talks = ap (map observed) (reverse-append (talk ∷ []) talks) ∙ map-append observed (reverse talks) (talk ∷ [])

-- the records after a message
pub records_sent : (m n : MachineState) (r : Record) → IsMessage m n r → records_in n.point.state ≡ records_in m.point.state ++ r ∷ []
records_sent m n r s =
    ap (λ (ts : List Talk). map observed (reverse ts)) s.talks ∙ one_behind s.talk m.point.state.talks ∙ ap (λ q. records_in m.point.state ++ q ∷ []) (sym s.recorded)

-- a step that answers a record, of the script or inserted, has sent its message
pub message_of : (m n : MachineState) (answer : Stepped) (r : Record) → TellsStep m n answer → (answer ≡ Sent r) ⊎ (answer ≡ Inserted r) → IsMessage m n r
message_of m n answer r tells (inl sent) = let told : IsSent m n r = subst (λ s. TellsStep m n s) sent tells in told.message
message_of m n answer r tells (inr inserted) = let told : IsInserted m n r = subst (λ s. TellsStep m n s) inserted tells in told.message

-- the record of a message is the next of the job's
pub next_is : RecordsSoFar → CountsMessagesSent → (job : ChannelJob) (placed : List Placed) (m n : MachineState) (r : Record) (k : ℕ) → IsSound job.tree → IsOf job placed m → IsOf job placed n → IsMessage m n r
    → m.point.number ≡ k → slice_get (records job placed) k ≡ Some r
next_is so_far counts job placed m n r k sound of of_next s is =
    let long : k ≡ length (records_in m.point.state) = sym is ∙ counts job placed m of in
    let front : records_in m.point.state ++ r ∷ [] ≡ take n.point.number (records job placed) = sym (records_sent m n r s) ∙ so_far job placed n sound of_next in
    let rest : List Record = drop n.point.number (records job placed) in
    let whole : records job placed ≡ records_in m.point.state ++ r ∷ rest =
    sym (take-append-drop n.point.number (records job placed)) ∙ ap (λ (xs : List Record). xs ++ rest) (sym front) ∙ append_assoc (records_in m.point.state) (r ∷ []) rest in
    ap (λ (xs : List Record). slice_get xs k) whole ∙ ap (λ i. slice_get (records_in m.point.state ++ r ∷ rest) i) long ∙ at_place (records_in m.point.state) rest r

-- it does not start before all that was sent earlier has ended
pub follows : (m n : MachineState) (r : Record) (end : ℕ) → IsMessage m n r → ended_in m ≡ end → end ≤ r.stamp
follows m n r end message is = omega (arith, message.follows, is)

-- and what it came to is the latest outcome
pub latest_told : (m n : MachineState) (r : Record) → IsMessage m n r → IsLatestOutcome n
latest_told m n r message = message.latest ∙ ap latest_outcome (sym message.talks)

-- where it has ended, all records were given
pub all_given : AllRecords → CountsMessagesSent → (job : ChannelJob) (placed : List Placed) (m : MachineState) (k : ℕ) → IsSound job.tree → IsOf job placed m → HasEnded m → m.point.number ≡ k
    → k ≡ length (records job placed)
all_given whole counts job placed m k sound of e is = sym is ∙ counts job placed m of ∙ ap length (whole job placed m sound of e)

-- a step keeps the code
pub same_code : (m : MachineState) → (stepped m).code ≡ m.code
unfolding stepped
same_code m = (kept_with (waiting m) m).0

-- a step leaves fewer steps of the budget
pub smaller : (m n : MachineState) → n ≡ stepped m → n.taken ≡ m.taken + 1 → IsUnderWay n → budget n.code.operations - n.taken < budget m.code.operations - m.taken
smaller m n is took way =
    let code : budget n.code.operations ≡ budget m.code.operations = ap (λ (v : MachineState). budget v.code.operations) is ∙ ap (λ (v : Code). budget v.operations) (same_code m) in
    let low : n.taken ≤ budget n.code.operations = way.steps in
    omega (arith, code, took, low)

-- and leaves it a job's
pub next_of : StaysMachineOf → (job : ChannelJob) (placed : List Placed) (m n : MachineState) → n ≡ stepped m → IsOf job placed m → IsUnderWay n → IsOf job placed n
next_of goes_on job placed m n is of way =
    subst (λ (v : MachineState). IsOf job placed v) (sym is) (goes_on job placed m of (subst IsUnderWay is way))
