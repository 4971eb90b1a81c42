use Rattle.std.proofs.Common.{◌≡◌, ℕ, ◌+◌, ◌-◌, ◌*◌, ◌≤◌, ◌<◌, Bool, true, false, cond, List, [], ◌∷◌, ◌++◌, length, refl, sym, ap, ◌∙◌, arith}
use Rattle.std.specs.Prelude.{codes, ◌||◌, Option, None, Some}
use Rattle.std.proofs.lemmas.Bool.{ne_eqb}
use Rattle.bench_decode.specs.Waiting.{Waiting, drawn_on}
use Rattle.bench_decode.proofs.Drawing.{drawing, on-none, on-text, rises}
use Rattle.bench_decode.specs.ReadingText.{second_parts}
use Rattle.bench_decode.proofs.readings.put_second.Goals as goal

pub returns-clause-put : goal.returns-clause-put
unfolding second_parts
returns-clause-put c = rw (c.put_reply.ensures.put, c.reply_to.ensures, c.put-2.ensures.put, c.put_form.ensures.put, c.of_command.ensures, c.of-command.ensures, c.word.ensures, c.end_red.ensures.put, c.put.ensures.put, c.begin_red.ensures.put) (simp drawing)
