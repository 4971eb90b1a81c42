use Rattle.std.proofs.Common.{◌≡◌, ◌+◌, ◌++◌, drop, length}
use Rattle.mil_bus.specs.Wholes.{all_words, words_in}
use Rattle.mil_bus.proofs.sent_words.words_of.Given as goal

abbrev pub invariant-loop-i : goal.invariant-loop-i
invariant-loop-i l = record {
  words : l.words.items ++ all_words (drop l.i l.runs) (drop l.from l.values) ≡ all_words l.runs l.values;
  left : l.from + words_in (drop l.i l.runs) ≡ length l.values;
  count : length l.words.items ≡ l.from;
}
