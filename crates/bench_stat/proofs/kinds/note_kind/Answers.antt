use Rattle.std.proofs.Common.{arith}
use Rattle.bench_stat.proofs.Kinding.{kinds_more}
use Rattle.bench_stat.proofs.kinds.note_kind.Goals as goal

pub returns : goal.returns
returns c = λ hs are. rw (c.with.ensures, c.from-place.ensures) (kinds_more hs c.args.header.now c.args.kinds.now (omega arith) are)
