-- A finished run and the debugger agree (own choice).
use Rattle.std.specs.Prelude.{◌≡◌, ℕ, false, List, [], ◌∷◌, Ok}
use Rattle.std.specs.List.{AllByRecursion}
use Rattle.job_file.specs.Jobs.{JobState}
use Rattle.ch11_reader.specs.Recording.{Found, packets_in}
use Rattle.bench_report.specs.Reports.{RunReport}
use Rattle.bench_settings.specs.declared.settings.Settings.{Settings}
use Rattle.bench_settings.specs.Lawful.{AreLawful}
use Rattle.bench_mail.specs.declared.mailbox.Inbox.{Inbox}
use Rattle.bench_run.specs.Runs.{IsRun}
use Rattle.bench_run.specs.Live.{AreLive}
use Rattle.replay.specs.Accord.{Agrees}

-- The jobs, the report of their run and the packets of its file agree, which is all that the debugger asks of what it
-- opens. A run that ends well promises by its clause `lawful` that jobs and settings may be run, and by its clause
-- `ran` that the bytes which the sink took are the file of a finished run.
abbrev pub RunIsReplayed : Type 0
RunIsReplayed =
    (jobs : List JobState) (s : Settings) (report : RunReport) (bytes : List ℕ) (found : List Found)
    → AreLawful jobs s → IsRun 0 jobs jobs s report bytes → packets_in bytes ≡ Ok found
    → Agrees jobs report.channels found

-- a job under the faults that were planned in its run
abbrev pub with_plan_of : JobState → JobState → JobState
with_plan_of live job = record job { plan = live.plan }

-- the jobs under the faults that were planned in their run
abbrev pub under_faults : List JobState → List JobState → List JobState
under_faults [] jobs = []
under_faults (live ∷ lives) [] = []
under_faults (live ∷ lives) (job ∷ jobs) = with_plan_of live job ∷ under_faults lives jobs

-- no line plans a fault by time or by command
abbrev pub NoneIsTimed : List JobState → Type 0
NoneIsTimed jobs = AllByRecursion (λ (j : JobState). j.timed.is_timed ≡ false) jobs

-- The same of a live run: jobs, report and packets agree, where the jobs are those that the run was given, without the
-- posts, under the faults that were planned in it: where no line plans one by time or by command, those are the jobs'
-- own. It is a run of the jobs with the posts that were placed, and the report says of these what the debugger has to
-- know, and when what lines say by time and by command was done. A live run that ends well promises the first premise
-- by its clause `lawful`, and the others by `ran`.
abbrev pub LiveRunIsReplayed : Type 0
LiveRunIsReplayed =
    (most : ℕ) (jobs : List JobState) (s : Settings) (before after : List Inbox) (report : RunReport)
    (lives : List JobState) (bytes : List ℕ) (found : List Found)
    → AreLawful jobs s → AreLive most jobs before after report.channels lives → IsRun most jobs lives s report bytes
    → packets_in bytes ≡ Ok found
    → Agrees (under_faults lives jobs) report.channels found
    × (NoneIsTimed jobs → Agrees jobs report.channels found)
