use Rattle.std.proofs.Common.{◌≡◌, ℕ, ◌+◌, ◌-◌, ◌*◌, ◌≤◌, ◌<◌, Bool, true, false, cond, List, [], ◌∷◌, ◌++◌, length, refl, sym, ap, ◌∙◌, arith}
use Rattle.std.specs.Prelude.{codes, ◌||◌, Option, None, Some}
use Rattle.std.proofs.lemmas.Bool.{ne_eqb}
use Rattle.bench_decode.specs.Waiting.{Waiting, drawn_on}
use Rattle.bench_decode.proofs.Drawing.{drawing, on-none, on-text, rises}
use Rattle.bench_decode.specs.DetailsText.{some_data}
use Rattle.bench_decode.proofs.details.put_some_data.Goals as goal

pub returns-clause-put : goal.returns-clause-put
unfolding some_data
returns-clause-put c = rw (c.put_more.ensures.put, c.has_more.ensures, c.put_piece.ensures.put, c.between.ensures.words, c.bytes.ensures, c.last_shown.ensures.end, c.put.ensures.put) (simp drawing)
