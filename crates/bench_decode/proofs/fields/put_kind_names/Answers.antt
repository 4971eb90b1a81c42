use Rattle.std.proofs.Common.{◌≡◌, ℕ, ◌+◌, ◌-◌, ◌*◌, ◌≤◌, ◌<◌, Bool, true, false, cond, List, [], ◌∷◌, ◌++◌, length, refl, sym, ap, ◌∙◌, arith}
use Rattle.std.specs.Prelude.{codes, ◌||◌, Option, None, Some}
use Rattle.std.proofs.lemmas.Bool.{ne_eqb}
use Rattle.bench_decode.specs.Waiting.{Waiting, drawn_on}
use Rattle.bench_decode.proofs.Drawing.{drawing, on-none, on-text, rises}
use Rattle.bench_decode.specs.BitText.{kind_names}
use Rattle.bench_decode.proofs.fields.put_kind_names.Goals as goal

pub returns-clause-put : goal.returns-clause-put
unfolding kind_names
returns-clause-put c = rw (c.put_name-5.ensures.put, c.put_name-4.ensures.put, c.put_name-3.ensures.put, c.put_name-2.ensures.put, c.put_name.ensures.put, c.is_set.ensures, c.is_set-2.ensures, c.is_set-3.ensures, c.is_set-4.ensures, c.is_set-5.ensures) (simp drawing)
