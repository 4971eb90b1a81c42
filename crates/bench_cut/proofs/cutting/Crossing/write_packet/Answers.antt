use Rattle.std.proofs.Common.{ap, arith}
use Rattle.std.proofs.lemmas.Bool.{le-ltb, lt-ltb}
use Rattle.bench_cut.specs.declared.choosing.Chosen.{Chosen}
use Rattle.bench_cut.proofs.cutting.Crossing.write_packet.Goals as goal

pub write_lost-requires-clause-some : goal.write_lost-requires-clause-some
write_lost-requires-clause-some g c = lt-ltb _ _ (omega (arith, ap (λ (x : Chosen). x.count) c.requires.what, c.requires.read.count))

pub write_kept-requires-clause-all : goal.write_kept-requires-clause-all
write_kept-requires-clause-all g c = le-ltb _ _ (omega (arith, ap (λ (x : Chosen). x.count) c.requires.what, c.requires.read.count))
