use Rattle.std.proofs.Common.{◌≡◌, ◌≤◌, ◌++◌, map, take, length}
use Rattle.std.specs.Prelude.{replicate}
use Rattle.mil_line.specs.Faults.{at_once}
use Rattle.mil_line.proofs.on_line.put_copies.Given as goal

abbrev pub invariant-loop-copy : goal.invariant-loop-copy
invariant-loop-copy l = record {
  items : l.words.items ≡ take l.room (l.fn.words.items ++ map at_once (replicate l._copy l.wave));
  within : length l.words.items ≤ l.room;
}
