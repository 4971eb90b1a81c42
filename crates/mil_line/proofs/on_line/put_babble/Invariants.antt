use Rattle.std.proofs.Common.{◌≡◌, ◌≤◌, ◌++◌, map, take, length, drop}
use Rattle.std.specs.List.{flat_map}
use Rattle.mil_line.specs.Faults.{babble_of, at_once}
use Rattle.mil_line.proofs.on_line.put_babble.Given as goal

abbrev pub invariant-loop-fault : goal.invariant-loop-fault
invariant-loop-fault l = record {
  items : take l.room (l.words.items ++ map at_once (flat_map (babble_of l.run) (drop l.fault-index l.faults))) ≡ take l.room (l.fn.words.items ++ map at_once (flat_map (babble_of l.run) l.faults));
  within : length l.words.items ≤ l.room;
}
