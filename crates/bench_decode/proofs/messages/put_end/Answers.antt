use Rattle.std.proofs.Common.{◌≡◌, ℕ, ◌+◌, ◌-◌, ◌≤◌, ◌<◌, Bool, true, false, cond, List, [], ◌∷◌, ◌++◌, length, refl, sym, ap, ◌∙◌, arith}
use Rattle.std.specs.Prelude.{codes}
use Rattle.bench_decode.specs.Columns.{drawn}
use Rattle.bench_decode.specs.Waiting.{Waiting, begun, drawn_on, told}
use Rattle.bench_decode.proofs.Drawing.{drawing, on-none, rises}
use Rattle.bench_decode.proofs.Putting.{free-end, free-then, no-names, put-begun, put-drawn, put-end, put-line, put-no-parts, put-on, put-texts, put-whole-line, put-words}
use Rattle.bench_decode.specs.MessageText.{end_parts}
use Rattle.bench_decode.proofs.messages.put_end.Goals as goal

pub returns : goal.returns
unfolding end_parts
returns c =
    let whole : told c.put_names.new.line (codes "\n") ≡ drawn_on c.args.line.now (end_parts c.args.view.now) = rw (c.put_names.ensures.put, c.block.ensures) (simp drawing) in
    c.end_line.ensures ∙ ap begun whole
