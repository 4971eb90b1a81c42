use Rattle.std.proofs.Common.{◌++◌, take}
use Rattle.std.specs.Io.KnownBytes.{Appends}
use Rattle.std.specs.List.{flat_map}
use Rattle.bench_signals.specs.FigureText.{head_of}
use Rattle.bench_signals.proofs.Printed.{said_text}
use Rattle.bench_signals.proofs.printing.print_signals.Given as goal

-- the figures so far were printed
abbrev pub invariant-loop-figure : goal.invariant-loop-figure
invariant-loop-figure g l = Appends (g.W.Write.contents l.fn.out) (g.W.Write.contents l.out) (head_of l.rows ++ flat_map (said_text l.rows l.signals) (take l.figure-index l.figures))
