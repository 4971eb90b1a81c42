use Rattle.std.proofs.Common.{◌≡◌, ℕ, ◌+◌, ◌-◌, ◌*◌, ◌≤◌, ◌<◌, Bool, true, false, cond, List, [], ◌∷◌, ◌++◌, length, refl, sym, ap, ◌∙◌, arith}
use Rattle.std.specs.Prelude.{codes, ◌||◌, Option, None, Some}
use Rattle.std.proofs.lemmas.Bool.{ne_eqb}
use Rattle.bench_decode.specs.Waiting.{Waiting, drawn_on}
use Rattle.bench_decode.proofs.Drawing.{drawing, on-none, on-text, rises}
use Rattle.bench_decode.proofs.Putting.{free-end, free-then, no-names, put-begun, put-drawn, put-end, put-line, put-no-parts, put-on, put-texts, put-whole-line, put-words}
use Rattle.bench_decode.specs.MessageText.{then_parts, then_words}
use Rattle.std.specs.Prelude.{nat_lt}
use Rattle.std.proofs.Common.{subst}
use Rattle.std.specs.Prelude.{OnOk}
use Rattle.bench_decode.specs.Waiting.{IsPut}
use Rattle.bench_decode.specs.Columns.{drawn}
use Rattle.bench_decode.proofs.words.put_then.Goals as goal

pub returns-then-are_any-clause-put : goal.returns-then-are_any-clause-put
unfolding then_parts
returns-then-are_any-clause-put g c =
    let is : nat_lt c.args.places.0 c.args.places.1 ≡ true = sym c.are_any.ensures ∙ c.if-are_any.true in
    subst (λ (b : Bool). OnOk c.put_then_words.result (IsPut (g.W.Write.contents c.args.out.now) c.args.line.now (g.W.Write.contents c.put_then_words.new.out) c.put_then_words.new.line (drawn c.args.line.now.shown 0 (cond b (then_words c.args.view.now c.args.places) ([]))))) (sym is) c.put_then_words.ensures.put

pub returns-else-are_any-clause-put : goal.returns-else-are_any-clause-put
unfolding then_parts
returns-else-are_any-clause-put g c =
    let is : nat_lt c.args.places.0 c.args.places.1 ≡ false = sym c.are_any.ensures ∙ c.if-are_any.false in
    subst (λ (b : Bool). IsPut (g.W.Write.contents c.args.out.now) c.args.line.now (g.W.Write.contents c.args.out.now) c.args.line.now (drawn c.args.line.now.shown 0 (cond b (then_words c.args.view.now c.args.places) []))) (sym is) (put-no-parts _ c.args.line.now 0)
