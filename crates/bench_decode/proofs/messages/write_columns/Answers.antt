use Rattle.std.proofs.Common.{◌≡◌, ℕ, ◌+◌, ◌-◌, ◌≤◌, ◌<◌, Bool, true, false, cond, List, [], ◌∷◌, ◌++◌, length, refl, sym, ap, ◌∙◌, arith}
use Rattle.std.specs.Prelude.{codes}
use Rattle.bench_decode.specs.Columns.{drawn}
use Rattle.bench_decode.specs.Waiting.{Waiting, begun, told}
use Rattle.bench_decode.proofs.Drawing.{drawing, on-none, rises}
use Rattle.bench_decode.proofs.Putting.{free-end, free-then, no-names, put-begun, put-drawn, put-end, put-line, put-no-parts, put-on, put-texts, put-whole-line, put-words}
use Rattle.bench_decode.specs.MessageText.{columns_line, columns_parts}
use Rattle.bench_decode.proofs.messages.write_columns.Goals as goal

pub returns-clause-put : goal.returns-clause-put
unfolding columns_line columns_parts
returns-clause-put g c =
    put-whole-line _ _ c.args.line.now c.begin_line.new.self (told c.put-2.new.self (codes "\n")) c.end_line.new.self columns_parts c.in_ok-begin_line.ensures.put c.in_ok-begin_line.ensures.begun
    (rw (c.put-2.ensures.put, c.pad_to.ensures.put, c.put.ensures.put) (simp drawing)) c.end_line.ensures
