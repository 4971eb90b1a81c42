use Rattle.std.proofs.Common.{◌≡◌, ℕ, ◌+◌, ◌-◌, ◌*◌, ◌≤◌, ◌<◌, Bool, true, false, cond, List, [], ◌∷◌, ◌++◌, length, refl, sym, ap, ◌∙◌, arith}
use Rattle.std.specs.Prelude.{codes, ◌||◌, Option, None, Some}
use Rattle.std.proofs.lemmas.Bool.{ne_eqb}
use Rattle.bench_decode.specs.Waiting.{Waiting, drawn_on}
use Rattle.bench_decode.proofs.Drawing.{drawing, on-none, on-text, rises}
use Rattle.bench_decode.specs.ReadingText.{unclear_parts}
use Rattle.bench_decode.proofs.readings.put_unclear.Goals as goal

pub returns-clause-put : goal.returns-clause-put
unfolding unclear_parts
returns-clause-put c = rw (c.put_gap_if-2.ensures.put, c.second_gap.ensures, c.put_gap_if.ensures.put, c.first_gap.ensures, c.end_red.ensures.put, c.put.ensures.put, c.begin_red.ensures.put, c.put_told_front.ensures.put, c.layout.ensures) (simp drawing)
