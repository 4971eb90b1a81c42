use Rattle.std.proofs.Common.{◌≡◌, ◌++◌, take}
use Rattle.std.specs.List.{flat_map}
use Rattle.frame_code.specs.Bytes.{two_bytes}
use Rattle.frame_code.proofs.writing.put_words.Given as goal

abbrev pub invariant-loop-word : goal.invariant-loop-word
invariant-loop-word l = l.bytes.items ≡ l.initial.bytes.items ++ flat_map two_bytes (take l.word-index l.words)
