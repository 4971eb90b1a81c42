use Rattle.std.proofs.Common.{◌≡◌, ◌≤◌, ◌-◌, ◌++◌, length}
use Rattle.std.specs.List.{flat_map}
use Rattle.frame_code.specs.Ranges.{AreInRange}
use Rattle.frame_code.specs.Bytes.{operation_bytes, version_for}
use Rattle.frame_code.specs.Reading.{many, operation_at}
use Rattle.frame_code.proofs.Many.{onto}
use Rattle.frame_code.proofs.reading.operations.Given as goal

abbrev pub invariant-loop : goal.invariant-loop
invariant-loop l = record {
  read : many (operation_at l.initial.version) l.initial.count l.initial.bytes ≡ onto l.found.items (many (operation_at l.initial.version) (l.count - l.counter) l.rest);
  so_far : length l.found.items ≡ l.counter;
  spelled : l.initial.bytes ≡ flat_map operation_bytes l.found.items ++ l.rest;
  range : AreInRange l.found.items;
  known : 1 ≤ l.initial.version → version_for l.found.items ≤ l.initial.version;
}
