use Rattle.std.proofs.Common.{◌≡◌, ℕ, ◌+◌, ◌-◌, ◌*◌, ◌≤◌, ◌<◌, Bool, true, false, cond, List, [], ◌∷◌, ◌++◌, length, refl, sym, ap, ◌∙◌, arith}
use Rattle.std.specs.Prelude.{codes, ◌||◌, Option, None, Some}
use Rattle.std.proofs.lemmas.Bool.{ne_eqb}
use Rattle.bench_decode.specs.Waiting.{Waiting, drawn_on}
use Rattle.bench_decode.proofs.Drawing.{drawing, on-none, on-text, rises}
use Rattle.bench_decode.specs.FormText.{zero_mark}
use Rattle.bench_decode.proofs.fields.put_zero.Goals as goal

pub returns-then-subaddress-eq0-clause-put : goal.returns-then-subaddress-eq0-clause-put
unfolding zero_mark
returns-then-subaddress-eq0-clause-put c = rw (c.if-subaddress-eq0.true, c.put.ensures.put) (simp drawing)

pub returns-else-subaddress-eq0-clause-put : goal.returns-else-subaddress-eq0-clause-put
unfolding zero_mark
returns-else-subaddress-eq0-clause-put c = rw (ne_eqb c.args.subaddress 0 c.if-subaddress-eq0.false) (sym (on-none _))
