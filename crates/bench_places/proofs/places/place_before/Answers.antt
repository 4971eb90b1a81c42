use Rattle.std.proofs.Common.{arith}
use Rattle.bench_places.proofs.Packets.{first_least}
use Rattle.bench_places.proofs.places.place_before.Goals as goal

pub overflow_sub-result : goal.overflow_sub-result
overflow_sub-result c = omega (arith, first_least c.args.sought.now c.args.index.now c.in-Some.place c.in-Some.ensures)
