use Rattle.std.proofs.Common.{◌≡◌, ℕ, ◌+◌, ◌-◌, ◌*◌, ◌≤◌, ◌<◌, Bool, true, false, cond, List, [], ◌∷◌, ◌++◌, length, refl, sym, ap, ◌∙◌, arith}
use Rattle.std.specs.Prelude.{codes, ◌||◌, Option, None, Some}
use Rattle.std.proofs.lemmas.Bool.{ne_eqb}
use Rattle.bench_decode.specs.Waiting.{Waiting, drawn_on}
use Rattle.bench_decode.proofs.Drawing.{drawing, on-none, on-text, rises}
use Rattle.bench_decode.specs.FormText.{form_parts}
use Rattle.bench_decode.proofs.fields.put_form.Goals as goal

pub returns-in-Receive-clause-put : goal.returns-in-Receive-clause-put
unfolding form_parts
returns-in-Receive-clause-put c = rw c.in-Receive.is c.put_word.ensures.put

pub returns-in-Transmit-clause-put : goal.returns-in-Transmit-clause-put
unfolding form_parts
returns-in-Transmit-clause-put c = rw c.in-Transmit.is c.put_word-in-Transmit.ensures.put

pub returns-in-Between-clause-put : goal.returns-in-Between-clause-put
unfolding form_parts
returns-in-Between-clause-put c = rw c.in-Between.is c.put_word-in-Between.ensures.put

pub returns-in-ReceiveAll-clause-put : goal.returns-in-ReceiveAll-clause-put
unfolding form_parts
returns-in-ReceiveAll-clause-put c = rw c.in-ReceiveAll.is c.put_word-in-ReceiveAll.ensures.put

pub returns-in-BetweenAll-clause-put : goal.returns-in-BetweenAll-clause-put
unfolding form_parts
returns-in-BetweenAll-clause-put c = rw c.in-BetweenAll.is c.put_word-in-BetweenAll.ensures.put

pub returns-in-Mode-clause-put : goal.returns-in-Mode-clause-put
unfolding form_parts
returns-in-Mode-clause-put c = rw (c.in-Mode.is, c.put_mode.ensures.put, c.put.ensures.put) (simp drawing)

pub returns-in-ModeAll-clause-put : goal.returns-in-ModeAll-clause-put
unfolding form_parts
returns-in-ModeAll-clause-put c = rw (c.in-ModeAll.is, c.put_mode-in-ModeAll.ensures.put, c.put-in-ModeAll.ensures.put) (simp drawing)

pub returns-in-Unknown-clause-put : goal.returns-in-Unknown-clause-put
unfolding form_parts
returns-in-Unknown-clause-put c = rw (c.in-Unknown.is, c.put-in-Unknown.ensures.put) (simp drawing)
