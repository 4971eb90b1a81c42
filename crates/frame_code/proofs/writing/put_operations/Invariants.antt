use Rattle.std.proofs.Common.{◌≡◌, ◌++◌, take}
use Rattle.std.specs.List.{flat_map}
use Rattle.frame_code.specs.Bytes.{operation_bytes}
use Rattle.frame_code.proofs.writing.put_operations.Given as goal

abbrev pub invariant-loop-op : goal.invariant-loop-op
invariant-loop-op l = l.bytes.items ≡ l.initial.bytes.items ++ flat_map operation_bytes (take l.op-index l.operations)
