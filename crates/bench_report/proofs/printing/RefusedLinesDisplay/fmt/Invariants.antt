use Rattle.std.proofs.Common.{take}
use Rattle.std.specs.Fmt.{HasWritten, IsPlainFormatter}
use Rattle.std.specs.List.{flat_map}
use Rattle.bench_report.specs.Printing.{refused_text}
use Rattle.bench_report.proofs.printing.RefusedLinesDisplay.fmt.Given as goal

-- the lines so far are written
abbrev pub invariant-loop-number : goal.invariant-loop-number
invariant-loop-number g l =
    IsPlainFormatter l.initial.f → HasWritten g.W.Write.write_str_gives l.initial.f (flat_map refused_text (take l.number-index l.number-items)) l.f
