-- The jobs whose states a session shows (own choice).
use Rattle.std.specs.Prelude.{◌≡◌, ℕ, ◌⊎◌, Bool, false, List, [], ◌∷◌}
use Rattle.std.specs.List.{list_any}
use Rattle.job_file.specs.Jobs.{JobState, job_in}
use Rattle.job_file.specs.Timed.{plan_under}
use Rattle.ch11_reader.specs.Indexed.{found_in}
use Rattle.bench_report.specs.Reports.{ChannelPart}
use Rattle.replay.specs.Accord.{Agrees}

-- a job under the faults that are due where its part of the report says that actions were placed; where no line plans
-- one by time or by command, they are the job's own
abbrev pub job_under : JobState → ChannelPart → JobState
job_under job part = record job { plan = plan_under (job_in job) job.timed part.placed }

-- each job under those faults; one that has no part of the report stays as it is
abbrev pub jobs_under : List JobState → List ChannelPart → List JobState
jobs_under jobs [] = jobs
jobs_under [] (part ∷ parts) = []
jobs_under (job ∷ jobs) (part ∷ parts) = job_under job part ∷ jobs_under jobs parts

-- a line of some job plans a fault by time or by command
abbrev pub any_timed : List JobState → Bool
any_timed jobs = list_any (λ (j : JobState). j.timed.is_timed) jobs

-- The jobs as they were given, whose faults are those of a run without posts. Where these do not agree with report and
-- recording, as behind a live run in which a post inserted a message, each job under the faults that are due where the
-- report says that actions were placed.
abbrev pub IsShown : List JobState → List ChannelPart → List ℕ → List JobState → Type 0
IsShown jobs parts recording shown =
    (shown ≡ jobs) ⊎ ((¬ Agrees jobs parts (found_in recording)) × (shown ≡ jobs_under jobs parts))

-- where no line plans a fault by time or by command, they are the jobs as they were given
abbrev pub OwnFaultsAreShown : Type 0
OwnFaultsAreShown =
    (jobs shown : List JobState) (parts : List ChannelPart) (recording : List ℕ) → any_timed jobs ≡ false
    → IsShown jobs parts recording shown → shown ≡ jobs
