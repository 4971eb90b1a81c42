use Rattle.std.proofs.Common.{◌≡◌, ℕ, ◌+◌, ◌-◌, ◌*◌, ◌≤◌, ◌<◌, Bool, true, false, cond, List, [], ◌∷◌, ◌++◌, length, refl, sym, ap, ◌∙◌, arith}
use Rattle.std.specs.Prelude.{codes, ◌||◌, Option, None, Some}
use Rattle.std.proofs.lemmas.Bool.{ne_eqb}
use Rattle.bench_decode.specs.Waiting.{Waiting, drawn_on}
use Rattle.bench_decode.proofs.Drawing.{drawing, on-none, on-text, rises}
use Rattle.bench_decode.specs.FormText.{mode_parts}
use Rattle.bench_decode.proofs.fields.put_mode.Goals as goal

pub returns-clause-put : goal.returns-clause-put
unfolding mode_parts
returns-clause-put c = rw (c.put-2.ensures.put, c.mode_name.ensures.name, c.put.ensures.put, c.put_numbers.ensures.put, c.put_zero.ensures.put) (simp drawing)
