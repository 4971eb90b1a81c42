use Rattle.std.proofs.Common.{[], ◌++◌, take}
use Rattle.std.specs.Io.KnownBytes.{Appends}
use Rattle.bench_stat.specs.ChannelText.{called_row, numbered}
use Rattle.bench_stat.specs.Times.{between_if}
use Rattle.bench_stat.proofs.printing.print_called_rows.Given as goal

-- the texts of those so far were written
abbrev pub invariant-loop-address : goal.invariant-loop-address
invariant-loop-address g l = Appends (g.W.Write.contents l.fn.out) (g.W.Write.contents l.out) ([] ++ numbered (called_row l.channel (between_if l.times)) 0 (take l.address l.terminals))
