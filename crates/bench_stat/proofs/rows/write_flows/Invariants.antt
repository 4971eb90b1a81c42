use Rattle.std.proofs.Common.{[], ◌++◌, take}
use Rattle.std.specs.Io.KnownBytes.{Appends}
use Rattle.bench_stat.specs.ChannelText.{numbered}
use Rattle.bench_stat.specs.RowText.{met_row}
use Rattle.bench_stat.specs.Times.{between_if}
use Rattle.bench_stat.proofs.rows.write_flows.Given as goal

-- the texts of those so far were written
abbrev pub invariant-loop-entry : goal.invariant-loop-entry
invariant-loop-entry g l = Appends (g.W.Write.contents l.fn.out) (g.W.Write.contents l.out) ([] ++ numbered (met_row l.channel l.span (between_if l.times)) 0 (take l.entry l.flows))
