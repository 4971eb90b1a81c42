use Rattle.std.proofs.Common.{length}
use Rattle.bench_names.proofs.names.ChannelNames.name.Given as goal

abbrev pub decreases-records : goal.decreases-records
decreases-records l = length l.rest
