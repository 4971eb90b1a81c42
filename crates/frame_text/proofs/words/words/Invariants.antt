use Rattle.std.proofs.Common.{◌≡◌, ◌≤◌, ℕ, List, length, take}
use Rattle.frame_text.specs.Tokens.{tokens}
use Rattle.frame_text.specs.Words.{words_at}
use Rattle.frame_text.proofs.Reading.{put_words}
use Rattle.frame_text.proofs.words.words.Given as goal

abbrev pub invariant-loop-word : goal.invariant-loop-word
invariant-loop-word l = record {
  read : (all : List ℕ) × (l.found.items ≡ take 33 all) × (words_at (tokens l.initial.rest) ≡ put_words all (words_at (tokens l.rest)));
  fewer : length (tokens l.rest) ≤ length (tokens l.initial.rest);
}

abbrev pub decreases-loop-word : goal.decreases-loop-word
decreases-loop-word l = length (tokens l.rest)
