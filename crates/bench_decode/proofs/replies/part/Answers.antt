use Rattle.std.proofs.Common.{◌≡◌, ℕ, ◌+◌, ◌-◌, ◌*◌, ◌≤◌, ◌<◌, Bool, true, false, cond, List, [], ◌∷◌, ◌++◌, length, refl, sym, ap, ◌∙◌, arith}
use Rattle.std.specs.Prelude.{codes, ◌||◌, Option, None, Some}
use Rattle.std.proofs.lemmas.Bool.{ne_eqb}
use Rattle.bench_decode.specs.Waiting.{Waiting, drawn_on}
use Rattle.bench_decode.proofs.Drawing.{drawing, on-none, on-text, rises}
use Rattle.bench_decode.specs.ReplyText.{parting}
use Rattle.bench_decode.proofs.replies.part.Goals as goal

pub returns-then-any-clause-put : goal.returns-then-any-clause-put
unfolding parting
returns-then-any-clause-put c = rw (c.if-any.true, c.put.ensures.put) (simp drawing)

pub returns-else-any-clause-put : goal.returns-else-any-clause-put
unfolding parting
returns-else-any-clause-put c = rw c.if-any.false (sym (on-none _))
