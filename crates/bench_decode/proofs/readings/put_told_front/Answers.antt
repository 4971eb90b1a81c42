use Rattle.std.proofs.Common.{◌≡◌, ℕ, ◌+◌, ◌-◌, ◌*◌, ◌≤◌, ◌<◌, Bool, true, false, cond, List, [], ◌∷◌, ◌++◌, length, refl, sym, ap, ◌∙◌, arith}
use Rattle.std.specs.Prelude.{codes, ◌||◌, Option, None, Some}
use Rattle.std.proofs.lemmas.Bool.{ne_eqb}
use Rattle.bench_decode.specs.Waiting.{Waiting, drawn_on}
use Rattle.bench_decode.proofs.Drawing.{drawing, on-none, on-text, rises}
use Rattle.bench_decode.specs.ReadingText.{told_front}
use Rattle.bench_decode.proofs.readings.put_told_front.Goals as goal

pub returns-then-told-clause-put : goal.returns-then-told-clause-put
unfolding told_front
returns-then-told-clause-put c = rw (c.if-told.true, c.put.ensures.put, c.put_front.ensures.put) (simp drawing)

pub returns-else-told-clause-put : goal.returns-else-told-clause-put
unfolding told_front
returns-else-told-clause-put c = rw c.if-told.false (sym (on-none _))
