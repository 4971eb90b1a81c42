use Rattle.std.proofs.Common.{◌≡◌, ℕ, ◌+◌, ◌-◌, ◌*◌, ◌≤◌, ◌<◌, Bool, true, false, cond, List, [], ◌∷◌, ◌++◌, length, refl, sym, ap, ◌∙◌, arith}
use Rattle.std.specs.Prelude.{codes, ◌||◌, Option, None, Some}
use Rattle.std.proofs.lemmas.Bool.{ne_eqb}
use Rattle.bench_decode.specs.Waiting.{Waiting, drawn_on}
use Rattle.bench_decode.proofs.Drawing.{drawing, on-none, on-text, rises}
use Rattle.bench_decode.proofs.Putting.{free-end, free-then, no-names, put-begun, put-drawn, put-end, put-line, put-no-parts, put-on, put-texts, put-whole-line, put-words}
use Rattle.bench_decode.specs.MessageText.{known_parts, formed_parts, words_parts}
use Rattle.bench_decode.specs.ReadingText.{first_words, other_words, reading_of}
use Rattle.ch11_layout.specs.Forms.{form_of}
use Rattle.bench_decode.proofs.messages.put_formed.Goals as goal

pub put_all_words-requires-clause-begun : goal.put_all_words-requires-clause-begun
put_all_words-requires-clause-begun g c = omega (arith, rises _ _ _ c.put_known.ensures.put, c.requires.begun)

pub returns-clause-put : goal.returns-clause-put
unfolding formed_parts
returns-clause-put g c =
    rw (← c.of-reading.ensures.reading) (put-on _ _ c.args.line.now c.put_known.new.line c.put_all_words.new.line (known_parts (form_of c.args.view.now) c.args.view.now c.of-reading.result) (words_parts c.args.view.now (first_words c.args.view.now c.of-reading.result) (other_words c.args.view.now c.of-reading.result)) c.put_known.ensures.put
    (rw (c.first_words-first.ensures, c.other_words-other.ensures) at c.in_ok-put_all_words.ensures.put))
