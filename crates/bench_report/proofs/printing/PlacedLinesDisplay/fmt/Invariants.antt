use Rattle.std.proofs.Common.{take}
use Rattle.std.specs.Fmt.{HasWritten, IsPlainFormatter}
use Rattle.std.specs.List.{flat_map}
use Rattle.bench_report.specs.Printing.{placed_text}
use Rattle.bench_report.proofs.printing.PlacedLinesDisplay.fmt.Given as goal

-- the lines so far are written
abbrev pub invariant-loop-place : goal.invariant-loop-place
invariant-loop-place g l =
    IsPlainFormatter l.initial.f → HasWritten g.W.Write.write_str_gives l.initial.f (flat_map placed_text (take l.place l.fn.self.0.now)) l.f
