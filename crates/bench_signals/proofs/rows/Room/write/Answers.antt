use Rattle.std.proofs.Common.{List, ℕ, true, false, sym, subst}
use Rattle.std.specs.Prelude.{OnOk}
use Rattle.std.specs.Io.KnownBytes.{Appends}
use Rattle.csv.specs.Writing.{text_written}
use Rattle.bench_dump.proofs.Steps.{appends_nothing}
use Rattle.bench_export.specs.Between.{Writes}
use Rattle.bench_signals.proofs.Keeping.{kept_still}
use Rattle.bench_signals.proofs.Written.{now_selected, rows_left_out, rows_selected}
use Rattle.bench_signals.proofs.rows.Room.write.Goals as goal

pub returns-then-chosen-clause-written : goal.returns-then-chosen-clause-written
returns-then-chosen-clause-written g c = λ history kept from.
    subst (λ (text : List ℕ). OnOk c.write_rows.result (Writes g.W.Write.contents c.args.writer.now c.write_rows.new.writer text))
    (sym (rows_selected c.args.sheet.now c.args.clock.now history (c.args.place.channel, c.args.view.now) (now_selected c.args.sheet.now history c.args.place.number c.args.place.channel c.args.view.now c.selects-chosen.result true from c.selects-chosen.ensures c.if-chosen.true)))
    (c.write_rows.ensures.written history kept from)

pub returns-then-chosen-clause-latest : goal.returns-then-chosen-clause-latest
returns-then-chosen-clause-latest g c = λ history kept from.
    c.write_rows.ensures.latest history kept (now_selected c.args.sheet.now history c.args.place.number c.args.place.channel c.args.view.now c.selects-chosen.result true from c.selects-chosen.ensures c.if-chosen.true)

pub returns-else-chosen-clause-written : goal.returns-else-chosen-clause-written
returns-else-chosen-clause-written g c = λ history kept from.
    subst (λ (text : List ℕ). Appends (text_written g.W.Write.contents c.args.writer.now) (text_written g.W.Write.contents c.args.writer.now) text)
    (sym (rows_left_out c.args.sheet.now c.args.clock.now history (c.args.place.channel, c.args.view.now) (now_selected c.args.sheet.now history c.args.place.number c.args.place.channel c.args.view.now c.selects-chosen.result false from c.selects-chosen.ensures c.if-chosen.false)))
    (appends_nothing (text_written g.W.Write.contents c.args.writer.now))

pub returns-else-chosen-clause-latest : goal.returns-else-chosen-clause-latest
returns-else-chosen-clause-latest g c = λ history kept from.
    kept_still c.args.sheet.now history (c.args.place.channel, c.args.view.now) c.args.self.now.latest (now_selected c.args.sheet.now history c.args.place.number c.args.place.channel c.args.view.now c.selects-chosen.result false from c.selects-chosen.ensures c.if-chosen.false) kept
