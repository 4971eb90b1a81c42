use Rattle.std.proofs.Common.{◌≡◌, map, take}
use Rattle.bench_core.specs.Channels.{report_part}
use Rattle.bench_core.proofs.world.World.report.Given as goal

abbrev pub invariant-loop-channel : goal.invariant-loop-channel
invariant-loop-channel l = l.channels.items ≡ map report_part (take l.channel-index l.self-inside.channels.items)
