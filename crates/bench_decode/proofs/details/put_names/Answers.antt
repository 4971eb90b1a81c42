use Rattle.std.proofs.Common.{◌≡◌, ℕ, ◌+◌, ◌-◌, ◌*◌, ◌≤◌, ◌<◌, Bool, true, false, cond, List, [], ◌∷◌, ◌++◌, length, refl, sym, ap, ◌∙◌, arith}
use Rattle.std.specs.Prelude.{codes, ◌||◌, Option, None, Some}
use Rattle.std.proofs.lemmas.Bool.{ne_eqb}
use Rattle.bench_decode.specs.Waiting.{Waiting, drawn_on}
use Rattle.bench_decode.proofs.Drawing.{drawing, on-none, on-text, rises}
use Rattle.bench_decode.specs.DetailsText.{names_parts}
use Rattle.bench_decode.specs.BitText.{has_names}
use Rattle.bench_decode.specs.Columns.{Part, text, begin_red, end_red}
use Rattle.bench_decode.specs.BitText.{block_parts}
use Rattle.bench_decode.proofs.details.put_names.Goals as goal

pub returns-then-has_names-clause-put : goal.returns-then-has_names-clause-put
unfolding names_parts
returns-then-has_names-clause-put c =
    let is : has_names c.args.block ≡ true = sym c.has_names.ensures ∙ c.if-has_names.true in
    let whole : c.put_block.new.line ≡ drawn_on c.args.line.now (text (codes "\nblock status:") ∷ block_parts c.args.block) = rw (c.put_block.ensures.put, c.put.ensures.put) (simp drawing) in
    whole ∙ ap (λ (b : Bool). drawn_on c.args.line.now (cond b (text (codes "\nblock status:") ∷ block_parts c.args.block) [])) (sym is)

pub returns-else-has_names-clause-put : goal.returns-else-has_names-clause-put
unfolding names_parts
returns-else-has_names-clause-put c =
    let is : has_names c.args.block ≡ false = sym c.has_names.ensures ∙ c.if-has_names.false in
    sym (on-none c.args.line.now) ∙ ap (λ (b : Bool). drawn_on c.args.line.now (cond b (text (codes "\nblock status:") ∷ block_parts c.args.block) [])) (sym is)
