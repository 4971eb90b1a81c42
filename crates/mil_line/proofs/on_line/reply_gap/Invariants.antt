use Rattle.std.proofs.Common.{◌≡◌, drop}
use Rattle.std.specs.List.{filter_map}
use Rattle.mil_line.specs.Faults.{reply_gap_by, last_or}
use Rattle.mil_line.proofs.on_line.reply_gap.Given as goal

abbrev pub invariant-loop-fault : goal.invariant-loop-fault
invariant-loop-fault l = last_or l.gap (filter_map (reply_gap_by l.run) (drop l.fault-index l.faults)) ≡ last_or l.fn.gap (filter_map (reply_gap_by l.run) l.faults)
