use Rattle.std.proofs.Common.{◌*◌}
use Rattle.bench_decode.proofs.Slices.{clipped-is}
use Rattle.bench_decode.proofs.words.between.Goals as goal

pub returns-clause-words : goal.returns-clause-words
returns-clause-words c = clipped-is c.args.words.now (c.args.from * 2) (c.args.to * 2) c.clipped-begin.result c.clipped-end.result c.clipped-end.ensures c.clipped-begin.ensures
