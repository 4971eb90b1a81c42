use Rattle.std.proofs.Common.{◌≡◌, take}
use Rattle.bench_settings.specs.Lawful.{channels_of}
use Rattle.replay.proofs.opening.channels_of.Given as goal

abbrev pub invariant-loop-job : goal.invariant-loop-job
invariant-loop-job l = l.channels.items ≡ channels_of (take l.job-index l.jobs)
