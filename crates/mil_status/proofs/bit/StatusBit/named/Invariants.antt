use Rattle.std.proofs.Common.{◌≡◌, drop}
use Rattle.mil_status.specs.Status.{every_bit, bit_called}
use Rattle.mil_status.proofs.bit.StatusBit.named.Given as goal

abbrev pub invariant-loop-bit : goal.invariant-loop-bit
invariant-loop-bit l = record {
  every : l.bit-items ≡ every_bit;
  called : bit_called (drop l.bit-index every_bit) l.name ≡ bit_called every_bit l.name;
}
