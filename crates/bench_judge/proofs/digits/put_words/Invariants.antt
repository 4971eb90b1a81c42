use Rattle.std.proofs.Common.{◌≡◌, ◌++◌, length}
use Rattle.std.specs.List.{flat_map}
use Rattle.bench_judge.specs.Told.{spaced_word}
use Rattle.bench_judge.proofs.digits.put_words.Given as goal

-- those so far are written
abbrev pub invariant-words : goal.invariant-words
invariant-words l = l.text.items ++ flat_map spaced_word l.rest ≡ l.fn.text.items ++ flat_map spaced_word l.words

abbrev pub decreases-words : goal.decreases-words
decreases-words l = length l.rest
