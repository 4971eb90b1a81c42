use Rattle.std.proofs.Common.{◌≡◌, ℕ, ◌+◌, ◌-◌, ◌*◌, ◌≤◌, ◌<◌, Bool, true, false, cond, List, [], ◌∷◌, ◌++◌, length, refl, sym, ap, ◌∙◌, arith}
use Rattle.std.specs.Prelude.{codes, ◌||◌, Option, None, Some}
use Rattle.std.proofs.lemmas.Bool.{ne_eqb}
use Rattle.bench_decode.specs.Waiting.{Waiting, drawn_on}
use Rattle.bench_decode.proofs.Drawing.{drawing, on-none, on-text, rises}
use Rattle.bench_decode.specs.DetailsText.{body_parts}
use Rattle.bench_decode.specs.MessageText.{is_unknown}
use Rattle.bench_decode.specs.ReadingText.{reading_of}
use Rattle.ch11_layout.specs.Forms.{form_of}
use Rattle.bench_decode.specs.DetailsText.{raw_parts, known_parts}
use Rattle.bench_decode.proofs.details.put_body.Goals as goal

pub returns-then-is_unknown-clause-put : goal.returns-then-is_unknown-clause-put
unfolding body_parts
returns-then-is_unknown-clause-put c =
    let is : is_unknown (form_of c.args.view.now) ≡ true = ap is_unknown (sym c.form.ensures) ∙ sym c.is_unknown.ensures ∙ c.if-is_unknown.true in
    c.put_raw.ensures.put ∙ ap (λ (b : Bool). drawn_on c.args.line.now (cond b (raw_parts c.args.view.now) (known_parts c.args.view.now (reading_of c.args.view.now)))) (sym is)

pub returns-else-is_unknown-clause-put : goal.returns-else-is_unknown-clause-put
unfolding body_parts
returns-else-is_unknown-clause-put c =
    let is : is_unknown (form_of c.args.view.now) ≡ false = ap is_unknown (sym c.form.ensures) ∙ sym c.is_unknown.ensures ∙ c.if-is_unknown.false in
    (rw c.of.ensures.reading at c.put_known.ensures.put) ∙ ap (λ (b : Bool). drawn_on c.args.line.now (cond b (raw_parts c.args.view.now) (known_parts c.args.view.now (reading_of c.args.view.now)))) (sym is)
