use Rattle.std.proofs.Common.{◌≡◌, ℕ, ◌+◌, ◌-◌, ◌*◌, ◌≤◌, ◌<◌, Bool, true, false, cond, List, [], ◌∷◌, ◌++◌, length, refl, sym, ap, ◌∙◌, arith}
use Rattle.std.specs.Prelude.{codes, ◌||◌, Option, None, Some}
use Rattle.std.proofs.lemmas.Bool.{ne_eqb}
use Rattle.bench_decode.specs.Waiting.{Waiting, drawn_on}
use Rattle.bench_decode.proofs.Drawing.{drawing, on-none, on-text, rises}
use Rattle.bench_decode.specs.BitText.{named}
use Rattle.bench_decode.proofs.fields.put_name.Goals as goal

pub returns-then-set-clause-put : goal.returns-then-set-clause-put
unfolding named
returns-then-set-clause-put c = rw (c.if-set.true, c.put.ensures.put) (simp drawing)

pub returns-else-set-clause-put : goal.returns-else-set-clause-put
unfolding named
returns-else-set-clause-put c = rw c.if-set.false (sym (on-none _))
