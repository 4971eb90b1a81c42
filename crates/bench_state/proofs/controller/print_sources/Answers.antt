use Rattle.std.proofs.Common.{◌≡◌, ◌++◌, ◌+◌, [], drop, get_or, refl, sym, ap, ◌∙◌, subst, append_assoc}
use Rattle.std.specs.Prelude.{None, Some, OnOk}
use Rattle.std.specs.Io.KnownBytes.{Appends}
use Rattle.std.proofs.KnownBytes.{Appends-nil, Appends-trans}
use Rattle.text_lines.specs.Words.{Text}
use Rattle.controller_host.proofs.Rising.{no_row}
use Rattle.bench_state.specs.Marks.{end_if}
use Rattle.bench_state.specs.SourceRows.{row_text, rows_text}
use Rattle.bench_state.proofs.Appending.{then_appends}
use Rattle.bench_state.proofs.SourceRows.{rows_next, rows_end}
use Rattle.bench_state.proofs.controller.print_sources.Goals as goal

pub loop-row-init : goal.loop-row-init
loop-row-init g c = ([], Appends-nil (g.W.Write.contents c.args.out.now), refl)

pub loop-row-preserved : goal.loop-row-preserved
loop-row-preserved g c =
    let w = c.loop-row.invariant in
    let rows = c.args.rows.now in
    let i = c.loop-row.row-index in
    let row = get_or rows i no_row in
    let before = c.loop-row.before in (
      w.0 ++ row_text before row,
      Appends-trans (g.W.Write.contents c.args.out.now) (g.W.Write.contents c.loop-row.out) (g.W.Write.contents c.print_row.new.out) w.0 (row_text before row) w.1 c.in_ok-print_row.ensures,
      append_assoc w.0 (row_text before row) (rows_text (Some row) (drop (i + 1) rows))
          ∙ ap (λ (t : Text). w.0 ++ t) (sym (rows_next before rows i no_row c.loop-row-test.true)) ∙ w.2,
    )

pub returns : goal.returns
returns g c =
    let w = c.loop-row.invariant in
    let rows = c.args.rows.now in
    let before = c.loop-row.before in
    let whole : w.0 ++ end_if c.is_some.result ≡ rows_text None rows =
    ap (λ b. w.0 ++ end_if b) c.is_some.ensures ∙ ap (λ (t : Text). w.0 ++ t) (sym (rows_end before rows c.loop-row.row-index c.loop-row-test.false)) ∙ w.2 in
    subst (λ (t : Text). OnOk c.print_end_if.result (Appends (g.W.Write.contents c.args.out.now) (g.W.Write.contents c.print_end_if.new.out) t)) whole
    (then_appends c.print_end_if.result _ _ _ w.0 (end_if c.is_some.result) w.1 c.print_end_if.ensures)
