use Rattle.std.proofs.Common.{◌≡◌, ◌-◌, ◌++◌, length}
use Rattle.std.specs.List.{flat_map}
use Rattle.frame_code.specs.Bytes.{message_bytes}
use Rattle.frame_code.specs.Reading.{many, message_at}
use Rattle.frame_code.proofs.Many.{onto}
use Rattle.frame_code.proofs.reading.messages.Given as goal

abbrev pub invariant-loop : goal.invariant-loop
invariant-loop l = record {
  read : many message_at l.initial.count l.initial.bytes ≡ onto l.found.items (many message_at (l.count - l.counter) l.rest);
  so_far : length l.found.items ≡ l.counter;
  spelled : l.initial.bytes ≡ flat_map message_bytes l.found.items ++ l.rest;
}
