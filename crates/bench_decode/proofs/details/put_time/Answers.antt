use Rattle.std.proofs.Common.{◌≡◌, ℕ, ◌+◌, ◌-◌, ◌*◌, ◌≤◌, ◌<◌, Bool, true, false, cond, List, [], ◌∷◌, ◌++◌, length, refl, sym, ap, ◌∙◌, arith}
use Rattle.std.specs.Prelude.{codes, ◌||◌, Option, None, Some}
use Rattle.std.proofs.lemmas.Bool.{ne_eqb}
use Rattle.bench_decode.specs.Waiting.{Waiting, drawn_on}
use Rattle.bench_decode.proofs.Drawing.{drawing, on-none, on-text, rises}
use Rattle.bench_decode.specs.DetailsText.{time_parts}
use Rattle.bench_decode.proofs.details.put_time.Goals as goal

pub returns-in-Some-clause-put : goal.returns-in-Some-clause-put
unfolding time_parts
returns-in-Some-clause-put c =
    rw (c.in-Some.is, c.put.ensures.put, c.put_decimals.ensures.put, c.put_labelled.ensures.put, c.of-time.ensures.seconds, c.of-time.ensures.ticks) (simp drawing)

pub returns-in-None-clause-put : goal.returns-in-None-clause-put
unfolding time_parts
returns-in-None-clause-put c = rw (c.in-None.is, c.put-in-None.ensures.put) (simp drawing)
