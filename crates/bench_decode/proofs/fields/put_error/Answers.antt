use Rattle.std.proofs.Common.{◌≡◌, ℕ, ◌+◌, ◌-◌, ◌*◌, ◌≤◌, ◌<◌, Bool, true, false, cond, List, [], ◌∷◌, ◌++◌, length, refl, sym, ap, ◌∙◌, arith}
use Rattle.std.specs.Prelude.{codes, ◌||◌, Option, None, Some}
use Rattle.std.proofs.lemmas.Bool.{ne_eqb}
use Rattle.bench_decode.specs.Waiting.{Waiting, drawn_on}
use Rattle.bench_decode.proofs.Drawing.{drawing, on-none, on-text, rises}
use Rattle.ch11_layout.specs.BlockStatus.{has_error}
use Rattle.bench_decode.specs.BitText.{error_parts}
use Rattle.bench_decode.specs.Columns.{Part, text, begin_red, end_red}
use Rattle.bench_decode.proofs.fields.put_error.Goals as goal

pub returns-then-is_set-clause-put : goal.returns-then-is_set-clause-put
unfolding error_parts
returns-then-is_set-clause-put c =
    let is : has_error c.args.block ≡ true = sym c.is_set.ensures ∙ c.if-is_set.true in
    let whole : c.end_red.new.self ≡ drawn_on c.args.line.now (begin_red ∷ text (codes " message_error") ∷ end_red ∷ []) = rw (c.end_red.ensures.put, c.put.ensures.put, c.begin_red.ensures.put) (simp drawing) in
    whole ∙ ap (λ (b : Bool). drawn_on c.args.line.now (cond b (begin_red ∷ text (codes " message_error") ∷ end_red ∷ []) [])) (sym is)

pub returns-else-is_set-clause-put : goal.returns-else-is_set-clause-put
unfolding error_parts
returns-else-is_set-clause-put c =
    let is : has_error c.args.block ≡ false = sym c.is_set.ensures ∙ c.if-is_set.false in
    sym (on-none c.args.line.now) ∙ ap (λ (b : Bool). drawn_on c.args.line.now (cond b (begin_red ∷ text (codes " message_error") ∷ end_red ∷ []) [])) (sym is)
