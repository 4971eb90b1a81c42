use Rattle.std.proofs.Common.{◌≡◌, ℕ, ◌+◌, ◌-◌, ◌*◌, ◌≤◌, ◌<◌, Bool, true, false, cond, List, [], ◌∷◌, ◌++◌, length, refl, sym, ap, ◌∙◌, arith}
use Rattle.std.specs.Prelude.{codes, ◌||◌, Option, None, Some}
use Rattle.std.proofs.lemmas.Bool.{ne_eqb}
use Rattle.bench_decode.specs.Waiting.{Waiting, drawn_on}
use Rattle.bench_decode.proofs.Drawing.{drawing, on-none, on-text, rises}
use Rattle.bench_decode.specs.DetailsText.{place_parts}
use Rattle.bench_decode.proofs.details.put_place.Goals as goal

pub returns-clause-put : goal.returns-clause-put
unfolding place_parts
returns-clause-put c = rw (c.put_time.ensures.put, c.time.ensures, c.put-2.ensures.put, c.letter_of.ensures, c.put.ensures.put, c.put_labelled-3.ensures.put, c.put_labelled-2.ensures.put, c.from.ensures, c.put_labelled.ensures.put) (simp drawing)
