use Rattle.std.proofs.Common.{◌≡◌, ◌-◌, ◌≤◌}
use Rattle.frame_code.specs.Reading.{many, many_versions, operation_at}
use Rattle.frame_code.proofs.Versions.{at_least}
use Rattle.frame_code.proofs.reading.past_operations.Given as goal

abbrev pub invariant-loop : goal.invariant-loop
invariant-loop l = record {
  read : many_versions (many (operation_at l.initial.version) l.initial.count l.initial.bytes) ≡ at_least l.needed (many_versions (many (operation_at l.initial.version) (l.count - l.counter) l.rest));
  some : 1 ≤ l.needed;
}
