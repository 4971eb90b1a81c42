use Rattle.std.proofs.Common.{◌≡◌, map, take}
use Rattle.bench_core.specs.Bench.{begun_channel}
use Rattle.bench_core.proofs.world.channels_of.Given as goal

abbrev pub invariant-loop-job : goal.invariant-loop-job
invariant-loop-job l = l.channels.items ≡ map begun_channel (take l.job-index l.jobs)
