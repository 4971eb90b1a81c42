use Rattle.std.proofs.Common.{◌≡◌, ◌+◌, ◌++◌}
use Rattle.std.specs.Prelude.{codes, map}
use Rattle.std.specs.List.{flat_map, range_with_len}
use Rattle.ch11_layout.specs.Layouts.{word_of}
use Rattle.bench_judge.specs.Told.{spaced_word}
use Rattle.bench_judge.proofs.there.put_data.Given as goal

-- the words so far are written
abbrev pub invariant-words : goal.invariant-words
invariant-words l = l.text.items ≡ l.fn.text.items ++ (codes "data" ++ flat_map spaced_word (map (λ place. word_of l.view.bytes (l.start + place)) (range_with_len 0 l.place)))
