use Rattle.std.proofs.Common.{◌≡◌, ℕ, ◌+◌, ◌-◌, ◌*◌, ◌≤◌, ◌<◌, Bool, true, false, cond, List, [], ◌∷◌, ◌++◌, length, refl, sym, ap, ◌∙◌, arith}
use Rattle.std.specs.Prelude.{codes, ◌||◌, Option, None, Some}
use Rattle.std.proofs.lemmas.Bool.{ne_eqb}
use Rattle.bench_decode.specs.Waiting.{Waiting, drawn_on}
use Rattle.bench_decode.proofs.Drawing.{drawing, on-none, on-text, rises}
use Rattle.bench_decode.specs.DetailsText.{raw_parts}
use Rattle.bench_decode.proofs.details.put_raw.Goals as goal

pub returns-clause-put : goal.returns-clause-put
unfolding raw_parts
returns-clause-put c = rw (c.put_data.ensures.put, c.word_count.ensures, c.put_word-2.ensures.put, c.gaps.ensures, c.put-2.ensures.put, c.put_word.ensures.put, c.block.ensures, c.put.ensures.put) (simp drawing)
