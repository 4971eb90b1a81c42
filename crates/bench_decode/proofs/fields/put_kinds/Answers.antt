use Rattle.std.proofs.Common.{◌≡◌, ℕ, ◌+◌, ◌-◌, ◌*◌, ◌≤◌, ◌<◌, Bool, true, false, cond, List, [], ◌∷◌, ◌++◌, length, refl, sym, ap, ◌∙◌, arith}
use Rattle.std.specs.Prelude.{codes, ◌||◌, Option, None, Some}
use Rattle.std.proofs.lemmas.Bool.{ne_eqb}
use Rattle.bench_decode.specs.Waiting.{Waiting, drawn_on}
use Rattle.bench_decode.proofs.Drawing.{drawing, on-none, on-text, rises}
use Rattle.bench_decode.specs.BitText.{kind_parts, tells_kind}
use Rattle.bench_decode.specs.Columns.{Part, text, begin_red, end_red}
use Rattle.bench_decode.specs.BitText.{kind_names}
use Rattle.bench_decode.proofs.fields.put_kinds.Goals as goal

pub returns-then-tells_kind-clause-put : goal.returns-then-tells_kind-clause-put
unfolding kind_parts
returns-then-tells_kind-clause-put c =
    let is : tells_kind c.args.block ≡ true = sym c.tells_kind.ensures ∙ c.if-tells_kind.true in
    let whole : c.end_red.new.self ≡ drawn_on c.args.line.now (begin_red ∷ (kind_names c.args.block ++ end_red ∷ [])) = rw (c.end_red.ensures.put, c.put_kind_names.ensures.put, c.begin_red.ensures.put) (simp drawing) in
    whole ∙ ap (λ (b : Bool). drawn_on c.args.line.now (cond b (begin_red ∷ (kind_names c.args.block ++ end_red ∷ [])) [])) (sym is)

pub returns-else-tells_kind-clause-put : goal.returns-else-tells_kind-clause-put
unfolding kind_parts
returns-else-tells_kind-clause-put c =
    let is : tells_kind c.args.block ≡ false = sym c.tells_kind.ensures ∙ c.if-tells_kind.false in
    sym (on-none c.args.line.now) ∙ ap (λ (b : Bool). drawn_on c.args.line.now (cond b (begin_red ∷ (kind_names c.args.block ++ end_red ∷ [])) [])) (sym is)
