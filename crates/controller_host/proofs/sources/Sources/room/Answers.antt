use Rattle.std.proofs.Common.{arith}
use Rattle.controller_host.proofs.Rising.{few_of}
use Rattle.controller_host.proofs.sources.Sources.room.Goals as goal

pub overflow_sub-more : goal.overflow_sub-more
overflow_sub-more c = omega (arith, few_of c.self.inside.rows.items c.self.invariant.rows, c.len-more.ensures)
