use Rattle.std.proofs.Common.{◌≡◌, ℕ, ◌+◌, ◌-◌, ◌≤◌, ◌<◌, Bool, true, false, cond, List, [], ◌∷◌, ◌++◌, length, refl, sym, ap, ◌∙◌, arith}
use Rattle.std.specs.Prelude.{codes}
use Rattle.bench_decode.specs.Columns.{drawn}
use Rattle.bench_decode.specs.Waiting.{Waiting, begun, told}
use Rattle.bench_decode.proofs.Drawing.{drawing, on-none, rises}
use Rattle.bench_decode.proofs.Putting.{free-end, free-then, no-names, put-begun, put-drawn, put-end, put-line, put-no-parts, put-on, put-texts, put-whole-line, put-words}
use Rattle.bench_decode.specs.MessageText.{body_parts, place_parts}
use Rattle.bench_decode.proofs.messages.put_up_to_words.Goals as goal

pub returns-clause-put : goal.returns-clause-put
returns-clause-put g c =
    put-line _ _ _ c.args.line.now c.begin_line.new.self c.put_body.new.line (place_parts c.args.place.now c.args.view.now ++ body_parts c.args.view.now) c.in_ok-begin_line.ensures.put c.in_ok-begin_line.ensures.begun
    (put-on _ _ c.begin_line.new.self c.put_place.new.line c.put_body.new.line (place_parts c.args.place.now c.args.view.now) (body_parts c.args.view.now) c.put_place.ensures.put c.in_ok-put_body.ensures.put)
