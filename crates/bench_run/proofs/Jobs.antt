-- What the jobs of a run come to: their records but for the refused, and their channels.
use Rattle.std.proofs.Common.{◌≡◌, ℕ, zero, suc, ◌^◌, ◌<◌, List, [], ◌∷◌, slice_get, slice_index, Some, ap}
use Rattle.std.specs.List.{AllByRecursion}
use Rattle.ch11_f1.specs.declared.Record.{Record}
use Rattle.job_file.specs.Jobs.{JobState}
use Rattle.bench_settings.specs.Lawful.{channels_of}
use Rattle.bench_settings.specs.Kept.{kept_records, is_kept}
use Rattle.bench_run.specs.Writer.{AreOrdered}
use Rattle.bench_run.proofs.Ended.{some_ordered}

-- the records of a job that were not refused can all be recorded, one behind the other
pub kept_ordered : (refused : List ℕ) (rs : List Record) → AllByRecursion (λ r. r.stamp < 2 ^ 48) rs → AreOrdered 0 (kept_records refused rs)
kept_ordered refused rs small = some_ordered (is_kept refused) rs small

-- the channel at the index of a job is the job's
pub channel_at_job : (jobs : List JobState) (t : ℕ) (job : JobState) → slice_get jobs t ≡ Some job → slice_index (channels_of jobs) t ≡ job.channel
channel_at_job [] t job at = absurd cc
channel_at_job (j ∷ jobs) zero job at = let same : j ≡ job = cc in ap (λ (k : JobState). k.channel) same
channel_at_job (j ∷ jobs) (suc t) job at = channel_at_job jobs t job at
