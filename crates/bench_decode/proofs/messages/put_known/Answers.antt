use Rattle.std.proofs.Common.{◌≡◌, ℕ, ◌+◌, ◌-◌, ◌*◌, ◌≤◌, ◌<◌, Bool, true, false, cond, List, [], ◌∷◌, ◌++◌, length, refl, sym, ap, ◌∙◌, arith}
use Rattle.std.specs.Prelude.{codes, ◌||◌, Option, None, Some}
use Rattle.std.proofs.lemmas.Bool.{ne_eqb}
use Rattle.bench_decode.specs.Waiting.{Waiting, drawn_on}
use Rattle.bench_decode.proofs.Drawing.{drawing, on-none, on-text, rises}
use Rattle.bench_decode.specs.MessageText.{known_parts}
use Rattle.bench_decode.proofs.messages.put_known.Goals as goal

pub pad_to-requires-clause-near : goal.pad_to-requires-clause-near
pad_to-requires-clause-near c = omega (arith, rises _ _ _ c.put_form.ensures.put, c.requires.begun)

pub returns-clause-put : goal.returns-clause-put
unfolding known_parts
returns-clause-put c = rw (c.put_reading.ensures.put, c.pad_to.ensures.put, c.put_form.ensures.put, c.form.ensures) (simp drawing)
