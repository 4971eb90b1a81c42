use Rattle.std.proofs.Common.{ap, sym, subst, ◌∙◌, List, ℕ}
use Rattle.std.specs.Prelude.{OnOk}
use Rattle.bench_decode.specs.MessageText.{columns_line}
use Rattle.bench_decode.specs.Waiting.{IsPut}
use Rattle.bench_decode.proofs.PrintedLines.{names_first, names_none}
use Rattle.bench_decode.proofs.Wording.{put-none}
use Rattle.bench_decode.proofs.printing.put_heading.Goals as goal

pub returns-then-is_first : goal.returns-then-is_first
returns-then-is_first g c = λ shown.
    subst (λ (l : List ℕ). OnOk c.write_columns.result (IsPut (g.W.Write.contents c.args.out.now) c.args.line.now (g.W.Write.contents c.write_columns.new.out) c.write_columns.new.line l))
    (ap columns_line shown ∙ sym (names_first c.args.output.now c.args.count (sym c.is_first.ensures ∙ c.if-is_first.true))) c.write_columns.ensures.put

pub returns-else-is_first : goal.returns-else-is_first
returns-else-is_first g c = λ shown.
    subst (λ (l : List ℕ). IsPut (g.W.Write.contents c.args.out.now) c.args.line.now (g.W.Write.contents c.args.out.now) c.args.line.now l)
    (sym (names_none c.args.output.now c.args.count (sym c.is_first.ensures ∙ c.if-is_first.false))) (put-none _ c.args.line.now)
