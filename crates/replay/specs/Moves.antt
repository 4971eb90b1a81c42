-- A recording under the debugger, and what moves of it come to (own choice).
use Rattle.std.specs.Prelude.{◌≡◌, ℕ, suc, ◌+◌, ◌%◌, ◌<◌, ◌≤◌, ◌⊎◌, Bool, true, List, length, slice_get, Some}
use Rattle.mil_word.specs.Timing.{least_gap}
use Rattle.mil_message.specs.World.{Point}
use Rattle.mil_bus.specs.declared.outcomes.Outcome.{Outcome}
use Rattle.frame_tree.specs.Tree.{Condition}
use Rattle.frame_tree.specs.Meaning.{condition_meaning}
use Rattle.bc_machine.specs.Controller.{BusRun}
use Rattle.bc_machine.specs.Running.{unplayed}
use Rattle.job_file.specs.Jobs.{JobState, job_in}
use Rattle.job_file.specs.Meaning.{world_at, bus_after}
use Rattle.job_file.specs.Machines.{latest_outcome}
use Rattle.ch11_reader.specs.Recording.{Found}
use Rattle.bench_report.specs.Reports.{ChannelPart}
use Rattle.replay.specs.declared.error.ReplayError.{ReplayError}
use Rattle.replay.specs.declared.error.ReplayError.TheVariants as error
use Rattle.replay.specs.Differences.{IsFirstDifference}
use Rattle.replay.specs.Places.{heard_channels, latest_kept_number}

-- the jobs, their parts of the report, the packets of the file, and behind how many of its messages the debugger stands
pub record ReplayState : Type 0 where
  pub jobs : List JobState
  pub parts : List ChannelPart
  pub found : List Found
  pub place : ℕ

-- where a debugger stands when it is opened
abbrev pub opened : List JobState → List ChannelPart → List Found → ReplayState
opened jobs parts found = record { jobs = jobs; parts = parts; found = found; place = 0 }

abbrev pub at_place : ℕ → ReplayState → ReplayState
at_place place s = record { jobs = s.jobs; parts = s.parts; found = s.found; place = place }

-- The debugger: where it stands, how many messages of the file its last move that succeeded has played, and the places
-- at which states are kept, besides the multiples of 64, at all of which they are.
pub record DebuggerState : Type 0 where
  pub state : ReplayState
  pub replayed : ℕ
  pub kept : List ℕ

-- a place is one of these
abbrev pub IsIn : List ℕ → ℕ → Type 0
IsIn places place = (k : ℕ) × (slice_get places k ≡ Some place)

-- A move from a place to another plays so many messages: those behind the nearest place that is not past where it ends
-- and whose states are at hand. These are the multiples of 64, the places at which states are kept, and the one where
-- the move begins.
pub record IsPlayedFromNearest (kept : List ℕ) (from to played : ℕ) : Type 0 where
  pub start : ℕ
  pub count : start + played ≡ to
  pub at_hand : (start % 64 ≡ 0) ⊎ ((start ≡ from) ⊎ IsIn kept start)
  pub round : played ≤ to % 64
  pub begun : from ≤ to → from ≤ start
  pub nearest : (place : ℕ) → IsIn kept place → place ≤ to → place ≤ start

-- Behind a move states are kept at places where they were before, and where it began: there they were at hand, or are
-- kept now.
pub record IsKeptBehind (from : ℕ) (old new : List ℕ) : Type 0 where
  pub begun : (from % 64 ≡ 0) ⊎ (IsIn old from ⊎ IsIn new from)
  pub others : (place : ℕ) → IsIn new place → (place ≡ from) ⊎ IsIn old place

-- a move that succeeded: how many messages it played, and where states are kept behind it
pub record IsMove (old new : DebuggerState) : Type 0 where
  pub played : IsPlayedFromNearest old.kept old.state.place new.state.place new.replayed
  pub kept : IsKeptBehind old.state.place old.kept new.kept

-- how many messages the file has
abbrev pub total_of : ReplayState → ℕ
total_of s = length (heard_channels s.found)

-- what holds of the job at an index with its part of the report
abbrev pub OfJob : ReplayState → ℕ → (JobState → ChannelPart → Type 0) → Type 0
OfJob s index P = (job : JobState) (part : ChannelPart) → slice_get s.jobs index ≡ Some job
    → slice_get s.parts index ≡ Some part → P job part

-- ---- conditions

-- where a job is after so many messages; a condition looks at the last outcome alone
abbrev pub point_after : JobState → ChannelPart → ℕ → Point BusRun Outcome
point_after job part number =
    let bus = bus_after (job_in job) part.placed number in
    record { state = unplayed bus; number = number; gap = least_gap; last = latest_outcome bus.talks }

-- what a test says of the outcome of that message
abbrev pub says : Condition → JobState → ChannelPart → ℕ → Bool
says test job part number = condition_meaning (world_at (job_in job) part.placed) test (point_after job part number)

-- message n of the file, counted from 1, is of a job for whose outcome the test is true
pub record IsMet (s : ReplayState) (test : Condition) (n : ℕ) : Type 0 where
  pub index : ℕ
  pub job : JobState
  pub part : ChannelPart
  pub job_there : slice_get s.jobs index ≡ Some job
  pub part_there : slice_get s.parts index ≡ Some part
  pub before : ℕ
  pub next : n ≡ suc before
  pub channel : slice_get (heard_channels s.found) before ≡ Some job.channel
  pub true_there : says test job part (latest_kept_number s.found n job part) ≡ true

-- the first such message past the place
pub record IsNextMet (s : ReplayState) (test : Condition) (n : ℕ) : Type 0 where
  pub past : s.place < n
  pub met : IsMet s test n
  pub first : (m : ℕ) → s.place < m → m < n → ¬ IsMet s test m

-- there is none
abbrev pub IsNowhere : ReplayState → Condition → Type 0
IsNowhere s test = (m : ℕ) → s.place < m → ¬ IsMet s test m

-- the latest such message before the place
pub record IsLatestMet (s : ReplayState) (test : Condition) (n : ℕ) : Type 0 where
  pub before : n < s.place
  pub met : IsMet s test n
  pub latest : (m : ℕ) → n < m → m < s.place → ¬ IsMet s test m

-- there is none before it
abbrev pub IsNowhereBefore : ReplayState → Condition → Type 0
IsNowhereBefore s test = (m : ℕ) → m < s.place → ¬ IsMet s test m

-- ---- refusals

-- Y1, only at the first difference, or want of memory
abbrev pub OpensNot : List JobState → List ChannelPart → List Found → ReplayError → Type 0
OpensNot jobs parts found (error.Mismatch channel number) = IsFirstDifference jobs parts found channel number
OpensNot jobs parts found error.Past = ⊥
OpensNot jobs parts found error.Start = ⊥
OpensNot jobs parts found error.Memory = Unit {0}

-- Y2, only where there is nowhere to go to, or want of memory, only where there is somewhere
abbrev pub PastWhere : Type 0 → ReplayError → Type 0
PastWhere P (error.Mismatch channel number) = ⊥
PastWhere P error.Past = P
PastWhere P error.Start = ⊥
PastWhere P error.Memory = ¬ P

-- Y3, only where there is nowhere to go back to, or want of memory, only where there is somewhere
abbrev pub StartWhere : Type 0 → ReplayError → Type 0
StartWhere P (error.Mismatch channel number) = ⊥
StartWhere P error.Past = ⊥
StartWhere P error.Start = P
StartWhere P error.Memory = ¬ P

-- want of memory alone
abbrev pub IsMemory : ReplayError → Type 0
IsMemory e = e ≡ error.Memory
