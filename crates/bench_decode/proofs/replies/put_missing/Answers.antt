use Rattle.std.proofs.Common.{◌≡◌, ℕ, ◌+◌, ◌-◌, ◌*◌, ◌≤◌, ◌<◌, Bool, true, false, cond, List, [], ◌∷◌, ◌++◌, length, refl, sym, ap, ◌∙◌, arith}
use Rattle.std.specs.Prelude.{codes, ◌||◌, Option, None, Some}
use Rattle.std.proofs.lemmas.Bool.{ne_eqb}
use Rattle.bench_decode.specs.Waiting.{Waiting, drawn_on}
use Rattle.bench_decode.proofs.Drawing.{drawing, on-none, on-text, rises}
use Rattle.bench_decode.specs.ReplyText.{listed, lone_gap}
use Rattle.bench_decode.proofs.Entries.{or-false, or-true}
use Rattle.bench_decode.proofs.replies.put_missing.Goals as goal

pub returns-then-gap-eq0-clause-put : goal.returns-then-gap-eq0-clause-put
unfolding listed lone_gap
returns-then-gap-eq0-clause-put c = rw c.if-gap-eq0.true (sym (on-none _))

pub returns-then-gap-eq0-clause-any : goal.returns-then-gap-eq0-clause-any
unfolding lone_gap
returns-then-gap-eq0-clause-any c = rw c.if-gap-eq0.true (sym (or-false c.args.any))

pub returns-clause-put : goal.returns-clause-put
unfolding listed lone_gap
returns-clause-put c = rw (ne_eqb c.args.gap 0 c.if-gap-eq0.false, c.put_gap.ensures.put, c.put.ensures.put, c.part.ensures.put) (simp drawing)

pub returns-clause-any : goal.returns-clause-any
unfolding lone_gap
returns-clause-any c = rw (ne_eqb c.args.gap 0 c.if-gap-eq0.false) (sym (or-true c.args.any))
