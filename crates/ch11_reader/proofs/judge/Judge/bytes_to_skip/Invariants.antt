use Rattle.std.proofs.Common.{◌≡◌, ◌+◌, ◌-◌, ◌≤◌, length}
use Rattle.ch11_reader.specs.Skipping.{bytes_before}
use Rattle.ch11_reader.specs.Walking.{IsRest}
use Rattle.ch11_reader.proofs.judge.Judge.bytes_to_skip.Given as goal

abbrev pub invariant-bytes : goal.invariant-bytes
invariant-bytes l = record {
  same : l.self ≡ l.fn.self;
  shorter : length l.rest ≤ length l.bytes;
  rest : IsRest l.fn.self l.rest;
  so_far : length l.bytes - length l.rest + bytes_before l.rest ≡ bytes_before l.bytes;
}

abbrev pub decreases-bytes : goal.decreases-bytes
decreases-bytes l = length l.rest
