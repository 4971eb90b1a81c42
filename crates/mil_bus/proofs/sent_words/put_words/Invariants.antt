use Rattle.std.proofs.Common.{◌≡◌, ◌+◌, ◌++◌, take, length}
use Rattle.mil_bus.specs.Wholes.{whole_words}
use Rattle.mil_bus.proofs.sent_words.put_words.Given as goal

abbrev pub invariant-loop-i : goal.invariant-loop-i
invariant-loop-i l = record {
  words : l.words.items ≡ l.fn.words.items ++ take l.i (whole_words l.run l.values);
  count : length l.words.items ≡ length l.fn.words.items + l.i;
}
