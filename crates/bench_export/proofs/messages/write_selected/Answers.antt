use Rattle.std.proofs.Common.{sym, ◌∙◌, subst}
use Rattle.csv.specs.Writing.{text_written}
use Rattle.bench_dump.proofs.Steps.{appends_nothing}
use Rattle.bench_export.specs.Between.{Writes}
use Rattle.bench_export.proofs.Written.{no_row}
use Rattle.bench_export.proofs.messages.write_selected.Goals as goal

pub returns-then-not-selects-clause-written : goal.returns-then-not-selects-clause-written
returns-then-not-selects-clause-written g c =
    subst (Writes g.W.Write.contents c.args.writer.now c.args.writer.now)
    (sym (no_row c.args.table.now c.args.clock.now c.args.place.number c.args.place.channel c.args.view.now (sym c.selects.ensures ∙ c.if-not-selects.true)))
    (appends_nothing (text_written g.W.Write.contents c.args.writer.now))
