use Rattle.std.proofs.Common.{◌≡◌, ℕ, ◌+◌, ◌-◌, ◌*◌, ◌≤◌, ◌<◌, Bool, true, false, cond, List, [], ◌∷◌, ◌++◌, length, refl, sym, ap, ◌∙◌, arith}
use Rattle.std.specs.Prelude.{codes, ◌||◌, Option, None, Some}
use Rattle.std.proofs.lemmas.Bool.{ne_eqb}
use Rattle.bench_decode.specs.Waiting.{Waiting, drawn_on}
use Rattle.bench_decode.proofs.Drawing.{drawing, on-none, on-text, rises}
use Rattle.bench_decode.specs.DetailsText.{data_parts}
use Rattle.std.specs.Prelude.{nat_lt}
use Rattle.bench_decode.specs.Columns.{Part, text, begin_red, end_red}
use Rattle.bench_decode.specs.DetailsText.{some_data}
use Rattle.bench_decode.proofs.details.put_data.Goals as goal

pub returns-then-are_any-clause-put : goal.returns-then-are_any-clause-put
unfolding data_parts
returns-then-are_any-clause-put c =
    let is : nat_lt c.args.places.0 c.args.places.1 ≡ true = sym c.are_any.ensures ∙ c.if-are_any.true in
    let whole : c.put_some_data.new.line ≡ drawn_on c.args.line.now (some_data c.args.label.now c.args.view.now c.args.places) = c.put_some_data.ensures.put in
    whole ∙ ap (λ (b : Bool). drawn_on c.args.line.now (cond b (some_data c.args.label.now c.args.view.now c.args.places) [])) (sym is)

pub returns-else-are_any-clause-put : goal.returns-else-are_any-clause-put
unfolding data_parts
returns-else-are_any-clause-put c =
    let is : nat_lt c.args.places.0 c.args.places.1 ≡ false = sym c.are_any.ensures ∙ c.if-are_any.false in
    sym (on-none c.args.line.now) ∙ ap (λ (b : Bool). drawn_on c.args.line.now (cond b (some_data c.args.label.now c.args.view.now c.args.places) [])) (sym is)
