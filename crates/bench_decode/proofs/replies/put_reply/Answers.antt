use Rattle.std.proofs.Common.{◌≡◌, ℕ, ◌+◌, ◌-◌, ◌*◌, ◌≤◌, ◌<◌, Bool, true, false, cond, List, [], ◌∷◌, ◌++◌, length, refl, sym, ap, ◌∙◌, arith}
use Rattle.std.specs.Prelude.{codes, ◌||◌, Option, None, Some}
use Rattle.std.proofs.lemmas.Bool.{ne_eqb}
use Rattle.bench_decode.specs.Waiting.{Waiting, drawn_on}
use Rattle.bench_decode.proofs.Drawing.{drawing, on-none, on-text, rises}
use Rattle.bench_decode.specs.ReplyText.{reply_parts}
use Rattle.bench_decode.proofs.replies.put_reply.Goals as goal

pub returns-clause-put : goal.returns-clause-put
unfolding reply_parts
returns-clause-put c = rw (c.put_gap.ensures.put, c.put_marks.ensures.put, c.put_digits.ensures.put) (simp drawing)
