use Rattle.std.proofs.Common.{◌≡◌, ℕ, ◌+◌, ◌-◌, ◌*◌, ◌≤◌, ◌<◌, Bool, true, false, cond, List, [], ◌∷◌, ◌++◌, length, refl, sym, ap, ◌∙◌, arith}
use Rattle.std.specs.Prelude.{codes, ◌||◌, Option, None, Some}
use Rattle.std.proofs.lemmas.Bool.{ne_eqb}
use Rattle.bench_decode.specs.Waiting.{Waiting, drawn_on}
use Rattle.bench_decode.proofs.Drawing.{drawing, on-none, on-text, rises}
use Rattle.bench_decode.specs.ReadingText.{gap_if, is_left}
use Rattle.bench_decode.specs.Columns.{Part, text, begin_red, end_red}
use Rattle.bench_decode.specs.ReplyText.{gap_parts}
use Rattle.bench_decode.proofs.readings.put_gap_if.Goals as goal

pub returns-then-is_left-clause-put : goal.returns-then-is_left-clause-put
unfolding gap_if
returns-then-is_left-clause-put c =
    let is : is_left c.args.due c.args.gap ≡ true = sym c.is_left.ensures ∙ c.if-is_left.true in
    let whole : c.put_gap.new.line ≡ drawn_on c.args.line.now (gap_parts c.args.gap) = c.put_gap.ensures.put in
    whole ∙ ap (λ (b : Bool). drawn_on c.args.line.now (cond b (gap_parts c.args.gap) [])) (sym is)

pub returns-else-is_left-clause-put : goal.returns-else-is_left-clause-put
unfolding gap_if
returns-else-is_left-clause-put c =
    let is : is_left c.args.due c.args.gap ≡ false = sym c.is_left.ensures ∙ c.if-is_left.false in
    sym (on-none c.args.line.now) ∙ ap (λ (b : Bool). drawn_on c.args.line.now (cond b (gap_parts c.args.gap) [])) (sym is)
