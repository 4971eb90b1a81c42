use Rattle.std.proofs.Common.{◌≡◌, ◌++◌, take}
use Rattle.std.specs.List.{flat_map}
use Rattle.frame_code.specs.Bytes.{message_bytes, AreLawful}
use Rattle.frame_code.proofs.writing.put_messages.Given as goal

abbrev pub invariant-loop-entry : goal.invariant-loop-entry
invariant-loop-entry l = record {
  bytes : l.bytes.items ≡ l.initial.bytes.items ++ flat_map message_bytes (take l.entry-index l.messages);
  lawful : AreLawful (take l.entry-index l.messages);
}
