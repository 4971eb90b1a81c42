use Rattle.std.proofs.Common.{ap, sym, subst, ◌∙◌, List, ℕ}
use Rattle.std.specs.Prelude.{OnOk}
use Rattle.bench_decode.specs.declared.line.Shown.{Shown}
use Rattle.bench_decode.specs.MessageText.{message_line_with}
use Rattle.bench_decode.specs.Waiting.{IsPut}
use Rattle.bench_decode.proofs.PrintedLines.{line_decoded, line_dumped}
use Rattle.bench_decode.proofs.printing.put_line.Goals as goal

pub returns-then-output : goal.returns-then-output
returns-then-output g c = λ shown.
    let o = c.args.output.now in
    let same = ap (λ (s : Shown). message_line_with o.signals.now s c.args.place.now c.args.view.now) shown in
    subst (λ (l : List ℕ). OnOk c.write_message_with.result (IsPut (g.W.Write.contents c.args.out.now) c.args.line.now (g.W.Write.contents c.write_message_with.new.out) c.write_message_with.new.line l))
    (same ∙ sym (line_decoded o c.args.place.now c.args.view.now c.if-output.true)) c.write_message_with.ensures.put

pub returns-else-output : goal.returns-else-output
returns-else-output g c = λ shown.
    subst (λ (l : List ℕ). OnOk c.put_as_dump.result (IsPut (g.W.Write.contents c.args.out.now) c.args.line.now (g.W.Write.contents c.put_as_dump.new.out) c.put_as_dump.new.line l))
    (sym (line_dumped c.args.output.now c.args.place.now c.args.view.now c.if-output.false)) c.put_as_dump.ensures
