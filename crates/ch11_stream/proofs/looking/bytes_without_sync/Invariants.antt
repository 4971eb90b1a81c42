use Rattle.std.proofs.Common.{◌≡◌, ℕ, ◌+◌, ◌-◌, ◌≤◌, List, ◌++◌, length, drop}
use Rattle.ch11_reader.specs.Skipping.{bytes_before}
use Rattle.ch11_stream.proofs.looking.bytes_without_sync.Given as goal

abbrev pub invariant-bytes : goal.invariant-bytes
invariant-bytes l = record {
  within : l.count ≤ length l.bytes;
  quiet : (others : List ℕ) → bytes_before (l.bytes ++ others) ≡ l.count + bytes_before (drop l.count l.bytes ++ others);
}

abbrev pub decreases-bytes : goal.decreases-bytes
decreases-bytes l = length l.bytes - l.count
