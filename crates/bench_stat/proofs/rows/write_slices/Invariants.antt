use Rattle.std.proofs.Common.{[], ◌++◌, take}
use Rattle.std.specs.Io.KnownBytes.{Appends}
use Rattle.std.specs.List.{flat_map}
use Rattle.bench_stat.specs.RowText.{slice_row}
use Rattle.bench_stat.proofs.rows.write_slices.Given as goal

-- the texts of those so far were written
abbrev pub invariant-loop-slice : goal.invariant-loop-slice
invariant-loop-slice g l = Appends (g.W.Write.contents l.fn.out) (g.W.Write.contents l.out) ([] ++ flat_map (slice_row l.figures.channel) (take l.slice-index l.slices))
