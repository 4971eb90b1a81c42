use Rattle.std.proofs.Common.{length}
use Rattle.ch11_recording.specs.Recording.{AreDistinct}
use Rattle.bench_settings.specs.Lawful.{channels_of}
use Rattle.bench_settings.proofs.judging.all_differ.Given as goal

-- the jobs so far have channels that differ from all behind them
abbrev pub invariant-loop-job : goal.invariant-loop-job
invariant-loop-job l = (AreDistinct (channels_of l.rest) → AreDistinct (channels_of l.jobs)) × (AreDistinct (channels_of l.jobs) → AreDistinct (channels_of l.rest))

abbrev pub decreases-loop-job : goal.decreases-loop-job
decreases-loop-job l = length l.rest
