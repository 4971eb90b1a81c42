use Rattle.std.proofs.Common.{◌≡◌, ℕ, ◌+◌, ◌-◌, ◌≤◌, ◌<◌, Bool, true, false, cond, List, [], ◌∷◌, ◌++◌, length, refl, sym, ap, ◌∙◌, arith}
use Rattle.std.specs.Prelude.{codes}
use Rattle.bench_decode.specs.Columns.{drawn}
use Rattle.bench_decode.specs.Waiting.{Waiting, begun, told}
use Rattle.bench_decode.proofs.Drawing.{drawing, on-none, rises}
use Rattle.bench_decode.proofs.Putting.{free-end, free-then, no-names, put-begun, put-drawn, put-end, put-line, put-no-parts, put-on, put-texts, put-whole-line, put-words}
use Rattle.bench_decode.specs.MessageText.{body_parts, end_parts, message_line, message_parts, place_parts}
use Rattle.bench_decode.proofs.messages.write_message.Goals as goal

pub returns-clause-put : goal.returns-clause-put
unfolding message_line message_parts
returns-clause-put g c =
    put-end _ _ c.args.line.now c.put_up_to_words.new.line c.put_end.new.line (place_parts c.args.place.now c.args.view.now) (body_parts c.args.view.now) (end_parts c.args.view.now) c.in_ok-put_up_to_words.ensures.put (free-end c.args.view.now) c.put_end.ensures

pub returns-clause-begun : goal.returns-clause-begun
returns-clause-begun g c = ap (λ (w : Waiting). w.columns) c.put_end.ensures
