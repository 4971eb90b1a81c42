-- Which jobs and settings may be run (own choice).
use Rattle.std.specs.Prelude.{ℕ, ◌≤◌, List, length, map, codes}
use Rattle.job_file.specs.Jobs.{JobState}
use Rattle.ch11_recording.specs.WrittenFile.{Format}
use Rattle.ch11_recording.specs.Recording.{AreDistinct}
use Rattle.ch11_recording.specs.Laws.{IsPrologue}
use Rattle.bench_settings.specs.declared.settings.Settings.{Settings}
use Rattle.bench_settings.specs.declared.error.WorldError.{WorldError}
use Rattle.bench_settings.specs.declared.error.WorldError.TheVariants as fault

abbrev pub format_of : Settings → Format
format_of s = record { version = s.version; limit = s.limit }

abbrev pub channels_of : List JobState → List ℕ
channels_of jobs = map (λ (j : JobState). j.channel) jobs

-- so many actions are posted to a channel at most
abbrev pub most_posts : ℕ
most_posts = 65536

-- 1 to 32 jobs, and each setting in its range
pub record AreSettingsInRange (jobs : List JobState) (s : Settings) : Type 0 where
  pub some : 1 ≤ length jobs
  pub few : length jobs ≤ 32
  pub limit_low : 256 ≤ s.limit
  pub limit_high : s.limit ≤ 524288
  pub queue_low : 1 ≤ s.queue
  pub queue_high : s.queue ≤ 4096
  pub posts : s.posts ≤ most_posts

-- they may be run: no channel is named by two jobs, and the prologue is one of sound packets without one of
-- MIL-STD-1553 messages
pub record AreLawful (jobs : List JobState) (s : Settings) : Type 0 where
  pub ranges : AreSettingsInRange jobs s
  pub distinct : AreDistinct (channels_of jobs)
  pub prologue : IsPrologue s.prologue.items

-- the fault is the first of theirs; memory is refused only to what may be run
abbrev pub RefusesJobs : List JobState → Settings → WorldError → Type 0
RefusesJobs jobs s fault.Settings = ¬ AreSettingsInRange jobs s
RefusesJobs jobs s fault.ChannelTwice = AreSettingsInRange jobs s × ¬ AreDistinct (channels_of jobs)
RefusesJobs jobs s fault.Prologue = AreSettingsInRange jobs s × AreDistinct (channels_of jobs)
    × ¬ IsPrologue s.prologue.items
RefusesJobs jobs s fault.Memory = AreLawful jobs s

abbrev pub fault_code : WorldError → List ℕ
fault_code fault.Settings = codes "U2"
fault_code fault.ChannelTwice = codes "U1"
fault_code fault.Prologue = codes "U5"
fault_code fault.Memory = codes "U3"
