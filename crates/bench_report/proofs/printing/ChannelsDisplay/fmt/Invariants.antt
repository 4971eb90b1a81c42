use Rattle.std.proofs.Common.{take}
use Rattle.std.specs.Fmt.{HasWritten, IsPlainFormatter}
use Rattle.std.specs.List.{flat_map}
use Rattle.bench_report.specs.Printing.{part_text}
use Rattle.bench_report.proofs.printing.ChannelsDisplay.fmt.Given as goal

-- the lines so far are written
abbrev pub invariant-loop-channel : goal.invariant-loop-channel
invariant-loop-channel g l =
    IsPlainFormatter l.initial.f → HasWritten g.W.Write.write_str_gives l.initial.f (flat_map part_text (take l.channel-index l.channel-items)) l.f
