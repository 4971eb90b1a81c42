use Rattle.std.proofs.Common.{◌≡◌, ◌-◌, ◌++◌, length}
use Rattle.std.specs.List.{flat_map}
use Rattle.frame_code.specs.Bytes.{two_bytes}
use Rattle.frame_code.specs.Reading.{many, two_at}
use Rattle.frame_code.proofs.Many.{onto}
use Rattle.frame_code.proofs.reading.words.Given as goal

abbrev pub invariant-loop : goal.invariant-loop
invariant-loop l = record {
  read : many two_at l.initial.count l.initial.bytes ≡ onto l.found.items (many two_at (l.count - l.counter) l.rest);
  so_far : length l.found.items ≡ l.counter;
  spelled : l.initial.bytes ≡ flat_map two_bytes l.found.items ++ l.rest;
}
