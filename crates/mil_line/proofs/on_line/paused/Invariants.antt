use Rattle.std.proofs.Common.{◌≡◌, drop}
use Rattle.std.specs.List.{filter_map}
use Rattle.mil_line.specs.Faults.{pause_at, last_or}
use Rattle.mil_line.proofs.on_line.paused.Given as goal

abbrev pub invariant-loop-fault : goal.invariant-loop-fault
invariant-loop-fault l = last_or l.gap (filter_map (pause_at l.run l.index) (drop l.fault-index l.faults)) ≡ last_or 20 (filter_map (pause_at l.run l.index) l.faults)
