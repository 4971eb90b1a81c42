use Rattle.std.proofs.Common.{◌≡◌, ℕ, ◌+◌, ◌-◌, ◌*◌, ◌≤◌, ◌<◌, Bool, true, false, cond, List, [], ◌∷◌, ◌++◌, length, refl, sym, ap, ◌∙◌, arith}
use Rattle.std.specs.Prelude.{codes, ◌||◌, Option, None, Some}
use Rattle.std.proofs.lemmas.Bool.{ne_eqb}
use Rattle.bench_decode.specs.Waiting.{Waiting, drawn_on}
use Rattle.bench_decode.proofs.Drawing.{drawing, on-none, on-text, rises}
use Rattle.bench_decode.proofs.Putting.{free-end, free-then, no-names, put-begun, put-drawn, put-end, put-line, put-no-parts, put-on, put-texts, put-whole-line, put-words}
use Rattle.bench_decode.specs.BitText.{block_parts}
use Rattle.bench_decode.proofs.messages.put_names.Goals as goal

pub returns-else-has_names-clause-put : goal.returns-else-has_names-clause-put
returns-else-has_names-clause-put c =
    rw (no-names c.args.block (sym c.has_names.ensures ∙ c.if-has_names.false)) (sym (on-none _))
