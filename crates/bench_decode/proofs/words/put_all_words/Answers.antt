use Rattle.std.proofs.Common.{◌≡◌, ℕ, ◌+◌, ◌-◌, ◌*◌, ◌≤◌, ◌<◌, Bool, true, false, cond, List, [], ◌∷◌, ◌++◌, length, refl, sym, ap, ◌∙◌, arith}
use Rattle.std.specs.Prelude.{codes, ◌||◌, Option, None, Some}
use Rattle.std.proofs.lemmas.Bool.{ne_eqb}
use Rattle.bench_decode.specs.Waiting.{Waiting, drawn_on}
use Rattle.bench_decode.proofs.Drawing.{drawing, on-none, on-text, rises}
use Rattle.bench_decode.proofs.Putting.{free-end, free-then, no-names, put-begun, put-drawn, put-end, put-line, put-no-parts, put-on, put-texts, put-whole-line, put-words}
use Rattle.bench_decode.specs.MessageText.{has_words, some_words, words_parts}
use Rattle.std.proofs.Common.{subst}
use Rattle.std.specs.Prelude.{OnOk}
use Rattle.bench_decode.specs.Waiting.{IsPut}
use Rattle.bench_decode.specs.Columns.{drawn}
use Rattle.bench_decode.proofs.words.put_all_words.Goals as goal

pub returns-then-has_words-clause-put : goal.returns-then-has_words-clause-put
unfolding words_parts
returns-then-has_words-clause-put g c =
    let is : has_words c.args.view.now c.args.first c.args.other ≡ true = sym c.has_words.ensures ∙ c.if-has_words.true in
    subst (λ (b : Bool). OnOk c.put_some_words.result (IsPut (g.W.Write.contents c.args.out.now) c.args.line.now (g.W.Write.contents c.put_some_words.new.out) c.put_some_words.new.line (drawn c.args.line.now.shown c.args.line.now.columns (cond b (some_words c.args.view.now c.args.first c.args.other) ([]))))) (sym is) c.put_some_words.ensures.put

pub returns-else-has_words-clause-put : goal.returns-else-has_words-clause-put
unfolding words_parts
returns-else-has_words-clause-put g c =
    let is : has_words c.args.view.now c.args.first c.args.other ≡ false = sym c.has_words.ensures ∙ c.if-has_words.false in
    subst (λ (b : Bool). IsPut (g.W.Write.contents c.args.out.now) c.args.line.now (g.W.Write.contents c.args.out.now) c.args.line.now (drawn c.args.line.now.shown c.args.line.now.columns (cond b (some_words c.args.view.now c.args.first c.args.other) []))) (sym is) (put-no-parts _ c.args.line.now c.args.line.now.columns)
