use Rattle.std.proofs.Common.{◌≡◌, ◌+◌, length}
use Rattle.std.specs.Prelude.{map}
use Rattle.std.specs.List.{range_with_len}
use Rattle.ch11_layout.specs.Layouts.{word_of}
use Rattle.ch11_layout.proofs.view.View.data_words.Given as goal

-- the data words so far were found
abbrev pub invariant-words : goal.invariant-words
invariant-words l = record {
  many : length l.found.items ≡ l.place;
  words : l.found.items ≡ map (λ place. word_of l.self.bytes (l.start + place)) (range_with_len 0 l.place);
}
