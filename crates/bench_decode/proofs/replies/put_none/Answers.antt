use Rattle.std.proofs.Common.{◌≡◌, ℕ, ◌+◌, ◌-◌, ◌*◌, ◌≤◌, ◌<◌, Bool, true, false, cond, List, [], ◌∷◌, ◌++◌, length, refl, sym, ap, ◌∙◌, arith}
use Rattle.std.specs.Prelude.{codes, ◌||◌, Option, None, Some}
use Rattle.std.proofs.lemmas.Bool.{ne_eqb}
use Rattle.bench_decode.specs.Waiting.{Waiting, drawn_on}
use Rattle.bench_decode.proofs.Drawing.{drawing, on-none, on-text, rises}
use Rattle.bench_decode.specs.ReplyText.{or_none}
use Rattle.bench_decode.proofs.replies.put_none.Goals as goal

pub returns-then-any-clause-put : goal.returns-then-any-clause-put
unfolding or_none
returns-then-any-clause-put c = rw c.if-any.true (sym (on-none _))

pub returns-clause-put : goal.returns-clause-put
unfolding or_none
returns-clause-put c = rw (c.if-any.false, c.put.ensures.put) (simp drawing)
