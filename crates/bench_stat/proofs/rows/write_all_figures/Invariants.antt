use Rattle.std.proofs.Common.{[], ◌++◌, take}
use Rattle.std.specs.Io.KnownBytes.{Appends}
use Rattle.std.specs.List.{flat_map}
use Rattle.bench_stat.specs.RowText.{figures_rows_of}
use Rattle.bench_stat.proofs.rows.write_all_figures.Given as goal

-- the texts of those so far were written
abbrev pub invariant-loop-channel : goal.invariant-loop-channel
invariant-loop-channel g l = Appends (g.W.Write.contents l.fn.out) (g.W.Write.contents l.out) ([] ++ flat_map (figures_rows_of l.shown l.clock l.told) (take l.channel-index l.figures))
