use Rattle.std.proofs.Common.{◌≡◌, drop}
use Rattle.std.specs.List.{filter_map}
use Rattle.mil_line.specs.Faults.{mask_at, inverted}
use Rattle.mil_line.proofs.on_line.masked.Given as goal

-- the masks to come make of the wave what all make of the first
abbrev pub invariant-loop-fault : goal.invariant-loop-fault
invariant-loop-fault l = inverted (filter_map (mask_at l.run l.index) (drop l.fault-index l.faults)) l.wave ≡ inverted (filter_map (mask_at l.run l.index) l.faults) l.fn.wave
