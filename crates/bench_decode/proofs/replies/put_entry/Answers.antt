use Rattle.std.proofs.Common.{◌≡◌, ℕ, ◌+◌, ◌-◌, ◌*◌, ◌≤◌, ◌<◌, Bool, true, false, cond, List, [], ◌∷◌, ◌++◌, length, refl, sym, ap, ◌∙◌, arith}
use Rattle.std.specs.Prelude.{codes, ◌||◌, Option, None, Some}
use Rattle.std.proofs.lemmas.Bool.{ne_eqb}
use Rattle.bench_decode.specs.Waiting.{Waiting, drawn_on}
use Rattle.bench_decode.proofs.Drawing.{drawing, on-none, on-text, rises}
use Rattle.bench_decode.specs.ReplyText.{entry_of, listed}
use Rattle.bench_decode.proofs.Entries.{or-false, or-true}
use Rattle.bench_decode.proofs.replies.put_entry.Goals as goal

pub returns-in-Some-clause-put : goal.returns-in-Some-clause-put
unfolding listed entry_of
returns-in-Some-clause-put c = rw (c.in-Some.is, c.put_reply.ensures.put, c.part.ensures.put) (simp drawing)

pub returns-in-Some-clause-any : goal.returns-in-Some-clause-any
unfolding entry_of
returns-in-Some-clause-any c = rw c.in-Some.is (sym (or-true c.args.any))

pub returns-in-None-clause-put : goal.returns-in-None-clause-put
unfolding listed entry_of
returns-in-None-clause-put c = rw c.in-None.is (sym (on-none _))

pub returns-in-None-clause-any : goal.returns-in-None-clause-any
unfolding entry_of
returns-in-None-clause-any c = rw c.in-None.is (sym (or-false c.args.any))
