use Rattle.std.proofs.Common.{subst}
use Rattle.std.specs.Io.KnownBytes.{Appends}
use Rattle.bench_complete.proofs.Written.{filler_is}
use Rattle.bench_cut.proofs.bodies.write_filler.Goals as goal

pub returns : goal.returns
returns g c = subst (Appends _ _) (filler_is c.args.count c.requires) c.in_ok-write_all.ensures.bytes
