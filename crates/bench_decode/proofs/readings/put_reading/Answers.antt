use Rattle.std.proofs.Common.{◌≡◌, ℕ, ◌+◌, ◌-◌, ◌*◌, ◌≤◌, ◌<◌, Bool, true, false, cond, List, [], ◌∷◌, ◌++◌, length, refl, sym, ap, ◌∙◌, arith}
use Rattle.std.specs.Prelude.{codes, ◌||◌, Option, None, Some}
use Rattle.std.proofs.lemmas.Bool.{ne_eqb}
use Rattle.bench_decode.specs.Waiting.{Waiting, drawn_on}
use Rattle.bench_decode.proofs.Drawing.{drawing, on-none, on-text, rises}
use Rattle.bench_decode.specs.ReadingText.{reading_parts}
use Rattle.bench_decode.proofs.readings.put_reading.Goals as goal

pub returns-in-Laid-clause-put : goal.returns-in-Laid-clause-put
unfolding reading_parts
returns-in-Laid-clause-put c = rw c.in-Laid.is c.put_replies.ensures.put

pub put_second-requires-clause-near : goal.put_second-requires-clause-near
put_second-requires-clause-near c = rw c.in-Second.is at c.requires.near

pub returns-in-Second-clause-put : goal.returns-in-Second-clause-put
unfolding reading_parts
returns-in-Second-clause-put c = rw c.in-Second.is c.put_second.ensures.put

pub returns-in-Unclear-clause-put : goal.returns-in-Unclear-clause-put
unfolding reading_parts
returns-in-Unclear-clause-put c = rw c.in-Unclear.is c.put_unclear.ensures.put
