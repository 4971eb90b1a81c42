use Rattle.std.proofs.Common.{◌≡◌, ℕ, ◌+◌, ◌-◌, ◌*◌, ◌≤◌, ◌<◌, Bool, true, false, cond, List, [], ◌∷◌, ◌++◌, length, refl, sym, ap, ◌∙◌, arith}
use Rattle.std.specs.Prelude.{codes, ◌||◌, Option, None, Some}
use Rattle.std.proofs.lemmas.Bool.{ne_eqb}
use Rattle.bench_decode.specs.Waiting.{Waiting, drawn_on}
use Rattle.bench_decode.proofs.Drawing.{drawing, on-none, on-text, rises}
use Rattle.bench_decode.specs.MessageText.{place_by}
use Rattle.bench_decode.proofs.front.put_wide_place.Goals as goal

pub returns-clause-put : goal.returns-clause-put
unfolding place_by
returns-clause-put c = rw (c.pad_to-2.ensures.put, c.put-4.ensures.put, c.pad_to.ensures.put, c.put_right-3.ensures.put, c.put-3.ensures.put, c.put_right-2.ensures.put, c.from.ensures, c.put-2.ensures.put, c.put_time.ensures.put, c.put.ensures.put, c.put_right.ensures.put) (simp drawing)
