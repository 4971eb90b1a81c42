use Rattle.std.proofs.Common.{◌≡◌, ◌<◌, ◌^◌, map, take}
use Rattle.std.specs.List.{AllByRecursion}
use Rattle.ch11_builder.specs.Held.{fresh}
use Rattle.ch11_recording.specs.WrittenFile.{channel_in}
use Rattle.bench_core.proofs.world.builders_of.Given as goal

abbrev pub invariant-loop-job : goal.invariant-loop-job
invariant-loop-job l = record {
  builders : l.builders.items ≡ map (λ j. fresh (channel_in (record { version = l.version; limit = l.limit }) j.channel)) (take l.job-index l.jobs);
  channels : AllByRecursion (λ j. j.channel < 2 ^ 16) (take l.job-index l.jobs);
}
