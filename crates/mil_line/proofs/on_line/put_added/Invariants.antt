use Rattle.std.proofs.Common.{◌≡◌, ◌≤◌, ◌++◌, map, take, length, drop}
use Rattle.std.specs.List.{filter_map}
use Rattle.mil_line.specs.Faults.{added_at, at_once}
use Rattle.mil_line.proofs.on_line.put_added.Given as goal

abbrev pub invariant-loop-fault : goal.invariant-loop-fault
invariant-loop-fault l = record {
  items : take l.room (l.words.items ++ map at_once (filter_map (added_at l.run l.index) (drop l.fault-index l.faults))) ≡ take l.room (l.fn.words.items ++ map at_once (filter_map (added_at l.run l.index) l.faults));
  within : length l.words.items ≤ l.room;
}
