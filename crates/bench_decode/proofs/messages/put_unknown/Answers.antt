use Rattle.std.proofs.Common.{◌≡◌, ℕ, ◌+◌, ◌-◌, ◌*◌, ◌≤◌, ◌<◌, Bool, true, false, cond, List, [], ◌∷◌, ◌++◌, length, refl, sym, ap, ◌∙◌, arith}
use Rattle.std.specs.Prelude.{codes, ◌||◌, Option, None, Some}
use Rattle.std.proofs.lemmas.Bool.{ne_eqb}
use Rattle.bench_decode.specs.Waiting.{Waiting, drawn_on}
use Rattle.bench_decode.proofs.Drawing.{drawing, on-none, on-text, rises}
use Rattle.bench_decode.proofs.Putting.{free-end, free-then, no-names, put-begun, put-drawn, put-end, put-line, put-no-parts, put-on, put-texts, put-whole-line, put-words}
use Rattle.bench_decode.specs.MessageText.{raw_parts, unknown_parts, words_parts}
use Rattle.ch11_layout.specs.Layouts.{size_of}
use Rattle.bench_decode.proofs.messages.put_unknown.Goals as goal

pub put_all_words-requires-clause-begun : goal.put_all_words-requires-clause-begun
put_all_words-requires-clause-begun g c = omega (arith, rises _ _ _ c.put_raw.ensures.put, c.requires.begun)

pub returns-clause-put : goal.returns-clause-put
unfolding unknown_parts
returns-clause-put g c =
    put-on _ _ c.args.line.now c.put_raw.new.line c.put_all_words.new.line (raw_parts c.args.view.now) (words_parts c.args.view.now (0, size_of c.args.view.now) (0, 0)) c.put_raw.ensures.put (rw c.word_count.ensures at c.in_ok-put_all_words.ensures.put)
