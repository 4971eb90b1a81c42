use Rattle.std.proofs.Common.{◌++◌, take}
use Rattle.std.specs.Prelude.{codes}
use Rattle.std.specs.Io.KnownBytes.{Appends}
use Rattle.std.specs.List.{flat_map}
use Rattle.bench_stat.specs.PageText.{slice_line}
use Rattle.bench_stat.proofs.tables.print_load.Given as goal

-- the texts of those so far were written
abbrev pub invariant-loop-slice : goal.invariant-loop-slice
invariant-loop-slice g l = Appends (g.W.Write.contents l.fn.out) (g.W.Write.contents l.out) (codes "       seconds     load\n" ++ flat_map slice_line (take l.slice-index l.slices))
