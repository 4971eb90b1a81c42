use Rattle.std.proofs.Common.{◌≡◌, ◌+◌, ◌++◌, drop, length}
use Rattle.mil_bus.specs.RunWords.{later_words}
use Rattle.mil_bus.proofs.runs.put_later.Given as goal

abbrev pub invariant-loop-word : goal.invariant-loop-word
invariant-loop-word l = record {
  words : l.sent.items ++ later_words l.run.number l.run.source (drop l.word-index l.words) ≡ l.fn.sent.items ++ later_words l.run.number l.run.source l.words;
  count : length l.sent.items ≡ length l.fn.sent.items + l.word-index;
}
