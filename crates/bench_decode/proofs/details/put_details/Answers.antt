use Rattle.std.proofs.Common.{◌≡◌, ℕ, ◌+◌, ◌-◌, ◌*◌, ◌≤◌, ◌<◌, Bool, true, false, cond, List, [], ◌∷◌, ◌++◌, length, refl, sym, ap, ◌∙◌, arith}
use Rattle.std.specs.Prelude.{codes, ◌||◌, Option, None, Some}
use Rattle.std.proofs.lemmas.Bool.{ne_eqb}
use Rattle.bench_decode.specs.Waiting.{Waiting, drawn_on}
use Rattle.bench_decode.proofs.Drawing.{drawing, on-none, on-text, rises}
use Rattle.bench_decode.specs.DetailsText.{details_parts, details_text}
use Rattle.bench_decode.proofs.Entries.{whole-shown, whole-text}
use Rattle.bench_decode.proofs.details.put_details.Goals as goal

pub returns-clause-text : goal.returns-clause-text
unfolding details_text details_parts
returns-clause-text c =
    whole-text c.args.line.now.shown c.put_names.new.line (details_parts c.args.place.now c.args.view.now)
    (rw (c.put_names.ensures.put, c.block.ensures, c.put_body.ensures.put, c.put_form.ensures.put, c.form.ensures, c.put_place.ensures.put, c.clear.ensures.new) (simp drawing))

pub returns-clause-shown : goal.returns-clause-shown
unfolding details_parts
returns-clause-shown c =
    whole-shown c.args.line.now.shown c.put_names.new.line (details_parts c.args.place.now c.args.view.now)
    (rw (c.put_names.ensures.put, c.block.ensures, c.put_body.ensures.put, c.put_form.ensures.put, c.form.ensures, c.put_place.ensures.put, c.clear.ensures.new) (simp drawing))
