-- The planned faults of a job that meet nothing (own choice).
use Rattle.std.specs.Prelude.{ℕ, zero, suc, ◌+◌, ◌-◌, not, List, [], ◌∷◌, ◌++◌, length, map}
use Rattle.std.specs.List.{filter}
use Rattle.mil_line.specs.declared.faults.Fault.{Fault}
use Rattle.mil_line.specs.Plans.{Planned, faults_of}
use Rattle.mil_bus.specs.declared.talks.Talk.{Talk}
use Rattle.mil_bus.specs.Exchange.{BusState}
use Rattle.bc_machine.specs.Controller.{ready}
use Rattle.job_file.specs.Jobs.{JobState, job_in}
use Rattle.job_file.specs.Meaning.{records, bus_after}
use Rattle.bench_check.specs.Meeting.{meets_something}

-- how many messages a job sends under its own actions
abbrev pub made : JobState → ℕ
made job = length (records (job_in job) job.actions)

-- its bus after the first k messages
abbrev pub bus_at : JobState → ℕ → BusState
bus_at job k = bus_after (job_in job) job.actions k

-- its bus as the message behind the first k meets it: the actions placed at that message are done
abbrev pub met_behind : JobState → ℕ → BusState
met_behind job k = ready job.actions (k + 1) (bus_at job k)

-- the faults of these that meet nothing of the latest talk
abbrev pub unmet_of : BusState → List Talk → List Fault → List Fault
unmet_of b [] faults = faults
unmet_of b (t ∷ ts) faults = filter (λ f. not (meets_something b t faults f)) faults

-- each fault with the number of its message
abbrev pub numbered : ℕ → List Fault → List Planned
numbered n faults = map (λ f. (n, f)) faults

-- the faults of the message behind the first k that meet nothing
unfoldable pub unmet_behind : JobState → ℕ → List Planned
unmet_behind job k = numbered (k + 1)
    (unmet_of (met_behind job k) (bus_at job (k + 1)).talks (faults_of (k + 1) job.plan))

-- those of the first so many messages
abbrev pub unmet_up_to : JobState → ℕ → List Planned
unmet_up_to job zero = []
unmet_up_to job (suc k) = unmet_up_to job k ++ unmet_behind job k

-- the faults that are planned for the first so many messages behind the first k
abbrev pub planned_behind : List Planned → ℕ → ℕ → List Planned
planned_behind plan k zero = []
planned_behind plan k (suc count) = planned_behind plan k count
    ++ numbered (k + count + 1) (faults_of (k + count + 1) plan)

-- All planned faults that meet nothing, by the numbers of their messages: those of messages that are sent and have no
-- such run or word, and those of messages that are never sent. A plan has numbers up to 1,000,000.
abbrev pub unmet : JobState → List Planned
unmet job = unmet_up_to job (made job) ++ planned_behind job.plan (made job) (1000000 - made job)
