use Rattle.std.proofs.Common.{◌≡◌, ℕ, ◌+◌, ◌-◌, ◌*◌, ◌≤◌, ◌<◌, Bool, true, false, cond, List, [], ◌∷◌, ◌++◌, length, refl, sym, ap, ◌∙◌, arith}
use Rattle.std.specs.Prelude.{codes, ◌||◌, Option, None, Some}
use Rattle.std.proofs.lemmas.Bool.{ne_eqb}
use Rattle.bench_decode.specs.Waiting.{Waiting, drawn_on}
use Rattle.bench_decode.proofs.Drawing.{drawing, on-none, on-text, rises}
use Rattle.bench_decode.specs.ReplyText.{entries, replies_parts}
use Rattle.bench_decode.proofs.Entries.{entries-put}
use Rattle.bench_decode.proofs.replies.put_replies.Goals as goal

pub returns-clause-put : goal.returns-clause-put
unfolding replies_parts
returns-clause-put c =
    entries-put _ _ _ _ _ _ _ _ _ _ _ _ _ _
    (rw c.front_reply.ensures at c.put_entry-front.ensures.put) (rw c.front_reply.ensures at c.put_entry-front.ensures.any)
    (rw c.back_reply.ensures at c.put_entry-back.ensures.put) (rw c.back_reply.ensures at c.put_entry-back.ensures.any)
    (rw c.first_left.ensures at c.put_missing-first.ensures.put) (rw c.first_left.ensures at c.put_missing-first.ensures.any)
    (rw c.second_left.ensures at c.put_missing-second.ensures.put) (rw c.second_left.ensures at c.put_missing-second.ensures.any)
    c.put_none.ensures.put
