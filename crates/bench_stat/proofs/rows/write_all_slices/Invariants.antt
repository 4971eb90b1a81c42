use Rattle.std.proofs.Common.{◌++◌, take}
use Rattle.std.specs.Prelude.{codes}
use Rattle.std.specs.Io.KnownBytes.{Appends}
use Rattle.std.specs.List.{flat_map}
use Rattle.bench_stat.specs.RowText.{slices_of}
use Rattle.bench_stat.proofs.rows.write_all_slices.Given as goal

-- the texts of those so far were written
abbrev pub invariant-loop-channel : goal.invariant-loop-channel
invariant-loop-channel g l = Appends (g.W.Write.contents l.fn.out) (g.W.Write.contents l.out) (codes "\nchannel,begin_us,end_us,load_percent\n" ++ flat_map (slices_of l.told) (take l.channel-index l.figures))
