use Rattle.std.proofs.Common.{◌≡◌, ◌≤◌, ◌+◌, ◌-◌, ◌*◌, drop}
use Rattle.ch11_header.specs.HeaderBytes.{word_sum}
use Rattle.ch11_header.proofs.header.sum_of_words.Given as goal

abbrev pub invariant-loop-word : goal.invariant-loop-word
invariant-loop-word l = (l.sum + word_sum (11 - l.word) (drop (2 * l.word) l.bytes) ≡ word_sum 11 l.bytes) × (l.sum ≤ 65535 * l.word)
