use Rattle.std.proofs.Common.{◌≡◌, ℕ, ◌+◌, ◌-◌, ◌*◌, ◌≤◌, ◌<◌, Bool, true, false, cond, List, [], ◌∷◌, ◌++◌, length, refl, sym, ap, ◌∙◌, arith}
use Rattle.std.specs.Prelude.{codes, ◌||◌, Option, None, Some}
use Rattle.std.proofs.lemmas.Bool.{ne_eqb}
use Rattle.bench_decode.specs.Waiting.{Waiting, drawn_on}
use Rattle.bench_decode.proofs.Drawing.{drawing, on-none, on-text, rises}
use Rattle.bench_decode.specs.DetailsText.{more_parts}
use Rattle.bench_decode.proofs.details.put_more.Goals as goal

pub returns-then-more-clause-put : goal.returns-then-more-clause-put
unfolding more_parts
returns-then-more-clause-put c = rw (c.if-more.true, c.put.ensures.put) (simp drawing)

pub returns-else-more-clause-put : goal.returns-else-more-clause-put
unfolding more_parts
returns-else-more-clause-put c = rw c.if-more.false (sym (on-none _))
