-- The thread of a job in a live run, where lines of the job are by time or by command.
use Rattle.std.specs.Prelude.{◌≡◌, ◌≢◌, ℕ, ◌+◌, ◌-◌, ◌^◌, ◌<◌, ◌≤◌, Bool, true, false, List, [], ◌∷◌, ◌++◌, length}
use Rattle.std.specs.Prelude.{map, min, None}
use Rattle.bc_machine.specs.declared.placed.HostAction.{HostAction}
use Rattle.bc_machine.specs.declared.placed.Placed.{Placed}
use Rattle.ch11_f1.specs.declared.Record.{Record}
use Rattle.bc_machine.specs.declared.Stepped.{Stepped}
use Rattle.bc_machine.specs.declared.Stepped.TheVariants.{Ran, Sent, Inserted, Halted}
use Rattle.bc_machine.specs.Posting.{at_next}
use Rattle.bc_machine.specs.Running.{HasEnded, stepped}
use Rattle.bc_machine.specs.UnderWay.{IsUnderWay, TellsStep}
use Rattle.frame_asm.specs.Shapes.{code_of_tree}
use Rattle.job_file.specs.declared.job_run.JobRun.{JobRun}
use Rattle.job_file.specs.Beside.{with_posted, StandsStill, GoesBeside, as_played}
use Rattle.job_file.specs.Jobs.{JobState, job_in, said_in, tree_in, own_inserts, said_inserts}
use Rattle.job_file.specs.Meaning.{bus_of}
use Rattle.job_file.specs.Resolving.{standing, IsKept, MayPlan, turns_left}
use Rattle.job_file.specs.Timed.{arranged, begun_beside, coming_met, faulted, found_in}
use Rattle.job_file.specs.TimedLines.{timed_inserts}
use Rattle.mil_trunk.specs.declared.trunk.Trunk.{Trunk}
use Rattle.mil_trunk.specs.declared.trunk.Ticket.{Ticket}
use Rattle.bench_mail.specs.declared.mailbox.Inbox.{Inbox}
use Rattle.bench_mail.specs.Mail.{times_empty}
use Rattle.bench_run.specs.declared.entry.Entry.{Entry}
use Rattle.bench_run.specs.declared.posting.Posts.{Posts}
use Rattle.bench_run.specs.Posted.{AreTaken}
use Rattle.bench_run.specs.Threads.{RecordsOfferedSoFar}

-- there is room for all that is still to come and for all posts that may still be taken
abbrev pub HasRoom : JobRun → Posts → Type 0
HasRoom r p = length r.machine.placed + length (standing r).left + p.left ≤ r.machine.capacity

-- all that is due was done, and then these actions that were posted were placed: in front of a message, or where none
-- comes any more; elsewhere nothing was taken
pub record Arrives (stands : Bool) (r r' : JobRun) (p p' : Posts) : Type 0 where
  pub posted : List HostAction
  pub left : (standing r').left ≡ (arranged (standing r)).left
  pub machine : r'.machine ≡ with_posted posted (arranged (standing r)).machine
  pub faults : r'.faults ≡ r.faults
  pub kept : IsKept r'
  pub room : HasRoom r' p'
  pub still : stands ≡ true → StandsStill (arranged (standing r)).machine
  pub quiet : stands ≡ false → (posted ≡ []) × (p' ≡ p) × (coming_met (arranged (standing r)).machine ≡ None)
  pub taken : (most : ℕ) (before : Inbox) (posts : List Placed) → AreTaken most before r.machine.point.number posts p
      → AreTaken most before r.machine.point.number (posts ++ map (at_next (arranged (standing r)).machine) posted) p'
  pub left_posts : p'.left ≤ p.left
  pub emptied : stands ≡ true → r.machine.point.number < 1000000 → 0 < p'.left
      → times_empty p'.inbox ≡ min (times_empty p.inbox + 1) (2 ^ 64 - 1)

-- the record of the message that a step sent, if it sent one
abbrev pub records_told : Stepped → List Record
records_told (Sent r) = r ∷ []
records_told (Inserted r) = r ∷ []
records_told Ran = []
records_told Halted = []

-- one step, under the faults that are due
pub record StepsOn (answer : Stepped) (r r' : JobRun) : Type 0 where
  pub machine : r'.machine ≡ stepped (faulted r.faults.faults r.machine)
  pub way : IsUnderWay (faulted r.faults.faults r.machine)
  pub tells : TellsStep (faulted r.faults.faults r.machine) r'.machine answer
  pub left : (standing r').left ≡ (standing r).left
  pub faults : r'.faults.faults ≡ r.faults.faults
  pub kept : IsKept r'
  pub planned : MayPlan r'
  pub less : answer ≢ Halted → turns_left r'.machine < turns_left (faulted r.faults.faults r.machine)
  pub ended : answer ≡ Halted → HasEnded r'.machine

-- So far the job went on beside these posts, and there is room for the rest.
pub record GoesOnBeside (most : ℕ) (before : Inbox) (job : JobState) (r : JobRun) (p : Posts) : Type 0 where
  pub posts : List Placed
  pub taken : AreTaken most before r.machine.point.number posts p
  pub goes : GoesBeside (found_in job.timed) (begun_beside most (said_in job) job.timed) posts (standing r)
  pub faults : r.faults.faults ≡ found_in job.timed
  pub kept : IsKept r
  pub planned : MayPlan r
  pub code : r.machine.code ≡ code_of_tree (tree_in job)
  pub begun : r.machine.begun ≡ bus_of (job_in job)
  pub room : HasRoom r p
  pub few : own_inserts r.machine.placed + timed_inserts (standing r).left ≤ said_inserts job + length posts

-- The same, and the records so far were offered: those of the job whose actions are those that are placed, and whose
-- faults those that are planned.
pub record IsStageBeside (trunk : Trunk Entry) (own : ℕ) (limits : List ℕ) (index most : ℕ) (before : Inbox)
    (job : JobState) (r : JobRun) (t : Ticket Entry) (refused : List ℕ) (p : Posts) : Type 0 where
  pub goes_on : GoesOnBeside most before job r p
  pub so_far : RecordsOfferedSoFar trunk own limits index (as_played job r.machine) r.machine.point.number t refused
