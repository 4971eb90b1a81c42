use Rattle.std.proofs.Common.{◌++◌, take}
use Rattle.std.specs.Io.KnownBytes.{Appends}
use Rattle.bench_stat.specs.ChannelText.{numbered}
use Rattle.bench_stat.specs.KindText.{head_of, kind_text}
use Rattle.bench_stat.proofs.kinds.print_kinds.Given as goal

-- the texts of those so far were written
abbrev pub invariant-loop-kind : goal.invariant-loop-kind
invariant-loop-kind g l = Appends (g.W.Write.contents l.fn.out) (g.W.Write.contents l.out) (head_of l.rows ++ numbered (kind_text l.rows) 0 (take l.kind l.kinds))
