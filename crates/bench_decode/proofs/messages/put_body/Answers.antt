use Rattle.std.proofs.Common.{◌≡◌, ℕ, ◌+◌, ◌-◌, ◌*◌, ◌≤◌, ◌<◌, Bool, true, false, cond, List, [], ◌∷◌, ◌++◌, length, refl, sym, ap, ◌∙◌, arith}
use Rattle.std.specs.Prelude.{codes, ◌||◌, Option, None, Some}
use Rattle.std.proofs.lemmas.Bool.{ne_eqb}
use Rattle.bench_decode.specs.Waiting.{Waiting, drawn_on}
use Rattle.bench_decode.proofs.Drawing.{drawing, on-none, on-text, rises}
use Rattle.bench_decode.specs.MessageText.{body_parts, is_unknown}
use Rattle.ch11_layout.specs.Forms.{form_of}
use Rattle.std.proofs.Common.{subst}
use Rattle.std.specs.Prelude.{OnOk}
use Rattle.bench_decode.specs.Waiting.{IsPut}
use Rattle.bench_decode.specs.Columns.{drawn}
use Rattle.bench_decode.specs.MessageText.{unknown_parts, formed_parts}
use Rattle.bench_decode.proofs.messages.put_body.Goals as goal

pub returns-then-is_unknown-clause-put : goal.returns-then-is_unknown-clause-put
unfolding body_parts
returns-then-is_unknown-clause-put g c =
    let is : is_unknown (form_of c.args.view.now) ≡ true = ap is_unknown (sym c.form.ensures) ∙ sym c.is_unknown.ensures ∙ c.if-is_unknown.true in
    subst (λ (b : Bool). OnOk c.put_unknown.result (IsPut (g.W.Write.contents c.args.out.now) c.args.line.now (g.W.Write.contents c.put_unknown.new.out) c.put_unknown.new.line (drawn c.args.line.now.shown c.args.line.now.columns (cond b (unknown_parts c.args.view.now) (formed_parts c.args.view.now))))) (sym is) c.put_unknown.ensures.put

pub returns-else-is_unknown-clause-put : goal.returns-else-is_unknown-clause-put
unfolding body_parts
returns-else-is_unknown-clause-put g c =
    let is : is_unknown (form_of c.args.view.now) ≡ false = ap is_unknown (sym c.form.ensures) ∙ sym c.is_unknown.ensures ∙ c.if-is_unknown.false in
    subst (λ (b : Bool). OnOk c.put_formed.result (IsPut (g.W.Write.contents c.args.out.now) c.args.line.now (g.W.Write.contents c.put_formed.new.out) c.put_formed.new.line (drawn c.args.line.now.shown c.args.line.now.columns (cond b (unknown_parts c.args.view.now) (formed_parts c.args.view.now))))) (sym is) c.put_formed.ensures.put
