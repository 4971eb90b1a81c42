use Rattle.std.proofs.Common.{◌≡◌, ℕ, ◌+◌, ◌-◌, ◌*◌, ◌≤◌, ◌<◌, Bool, true, false, cond, List, [], ◌∷◌, ◌++◌, length, refl, sym, ap, ◌∙◌, arith}
use Rattle.std.specs.Prelude.{codes, ◌||◌, Option, None, Some}
use Rattle.std.proofs.lemmas.Bool.{ne_eqb}
use Rattle.bench_decode.specs.Waiting.{Waiting, drawn_on}
use Rattle.bench_decode.proofs.Drawing.{drawing, on-none, on-text, rises}
use Rattle.bench_decode.specs.MessageText.{raw_parts}
use Rattle.bench_decode.proofs.messages.put_raw.Goals as goal

pub pad_to-requires-clause-near : goal.pad_to-requires-clause-near
pad_to-requires-clause-near c = omega (arith, rises _ _ _ c.put_form.ensures.put, c.begin_red.ensures.columns, c.end_red.ensures.columns, c.requires.begun)

pub returns-clause-put : goal.returns-clause-put
unfolding raw_parts
returns-clause-put c =
    rw (c.put_word-2.ensures.put, c.gaps.ensures, c.put-2.ensures.put, c.put_word.ensures.put, c.block.ensures, c.put.ensures.put, c.pad_to.ensures.put, c.end_red.ensures.put, c.put_form.ensures.put, c.begin_red.ensures.put) (simp drawing)
