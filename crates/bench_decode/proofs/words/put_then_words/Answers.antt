use Rattle.std.proofs.Common.{◌≡◌, ℕ, ◌+◌, ◌-◌, ◌*◌, ◌≤◌, ◌<◌, Bool, true, false, cond, List, [], ◌∷◌, ◌++◌, length, refl, sym, ap, ◌∙◌, arith}
use Rattle.std.specs.Prelude.{codes, ◌||◌, Option, None, Some}
use Rattle.std.proofs.lemmas.Bool.{ne_eqb}
use Rattle.bench_decode.specs.Waiting.{Waiting, drawn_on}
use Rattle.bench_decode.proofs.Drawing.{drawing, on-none, on-text, rises}
use Rattle.bench_decode.proofs.Putting.{free-end, free-then, no-names, put-begun, put-drawn, put-end, put-line, put-no-parts, put-on, put-texts, put-whole-line, put-words}
use Rattle.bench_dump.specs.DumpText.{bus_words}
use Rattle.bench_decode.specs.MessageText.{between, then_words}
use Rattle.bench_decode.proofs.words.put_then_words.Goals as goal

pub returns-clause-put : goal.returns-clause-put
unfolding then_words
returns-clause-put g c =
    put-texts _ _ c.args.line.now c.put.new.self c.put_words.new.self (codes " then") (bus_words (between c.args.view.now.bytes c.args.places.0 c.args.places.1)) c.put.ensures.put (rw c.words_between.ensures at c.in_ok-put_words.ensures.put)
