use Rattle.std.proofs.Common.{◌≡◌, ℕ, ◌+◌, ◌-◌, ◌*◌, ◌≤◌, ◌<◌, Bool, true, false, cond, List, [], ◌∷◌, ◌++◌, length, refl, sym, ap, ◌∙◌, arith}
use Rattle.std.specs.Prelude.{codes, ◌||◌, Option, None, Some}
use Rattle.std.proofs.lemmas.Bool.{ne_eqb}
use Rattle.bench_decode.specs.Waiting.{Waiting, drawn_on}
use Rattle.bench_decode.proofs.Drawing.{drawing, on-none, on-text, rises}
use Rattle.bench_decode.specs.DetailsText.{known_parts}
use Rattle.bench_decode.proofs.details.put_known.Goals as goal

pub returns-clause-put : goal.returns-clause-put
unfolding known_parts
returns-clause-put c = rw (c.put_data-2.ensures.put, c.other_words.ensures, c.put_data.ensures.put, c.first_words.ensures, c.put_reading.ensures.put, c.put.ensures.put) (simp drawing)
