use Rattle.std.proofs.Common.{◌≡◌, ◌++◌}
use Rattle.bench_view.specs.Lines.{words_text}
use Rattle.bench_view.proofs.line.put_words.Given as goal

-- the words so far were put
abbrev pub invariant-words : goal.invariant-words
invariant-words l = l.text.items ≡ l.fn.text.items ++ words_text l.place l.view
