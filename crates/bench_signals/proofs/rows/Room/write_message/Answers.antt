use Rattle.std.proofs.Common.{List, ◌∷◌, ℕ, sym, subst}
use Rattle.std.specs.Prelude.{OnOk}
use Rattle.std.specs.Io.KnownBytes.{Appends}
use Rattle.csv.specs.Writing.{text_written}
use Rattle.bench_dump.proofs.Steps.{appends_nothing}
use Rattle.bench_export.specs.Between.{Writes}
use Rattle.bench_signals.specs.Latest.{AreKept}
use Rattle.bench_signals.specs.declared.latest.Latest.{Latest}
use Rattle.bench_signals.proofs.Parts.{always}
use Rattle.bench_signals.proofs.Written.{any_row, no_row}
use Rattle.bench_signals.proofs.rows.Room.write_message.Goals as goal

pub returns-then-any-clause-written : goal.returns-then-any-clause-written
returns-then-any-clause-written g c = λ history kept from.
    let still = subst (λ (l : Latest). AreKept c.args.sheet.now history l) (sym c.in_ok-begin.ensures.latest) kept in
    subst (λ (text : List ℕ). OnOk c.write_row.result (Writes g.W.Write.contents c.args.writer.now c.write_row.new.writer text))
    (any_row c.args.sheet.now c.args.clock.now history c.args.place.number c.args.place.channel c.args.view.now c.begin.new.self.row c.push_cells.new.self.row c.in_ok-any.any from c.in_ok-begin.ensures.row (c.in_ok-any.ensures.row history still) (c.in_ok-any.ensures.any history still) c.if-any.true)
    c.write_row.ensures.written

pub returns-then-any-clause-latest : goal.returns-then-any-clause-latest
returns-then-any-clause-latest g c = λ history kept is.
    let still = subst (λ (l : Latest). AreKept c.args.sheet.now history l) (sym c.in_ok-begin.ensures.latest) kept in
    always (AreKept c.args.sheet.now ((c.args.place.channel, c.args.view.now) ∷ history) c.push_cells.new.self.latest) c.write_row.result (c.in_ok-any.ensures.latest history still is)

pub returns-else-any-clause-written : goal.returns-else-any-clause-written
returns-else-any-clause-written g c = λ history kept from.
    let still = subst (λ (l : Latest). AreKept c.args.sheet.now history l) (sym c.in_ok-begin.ensures.latest) kept in
    subst (λ (text : List ℕ). Appends (text_written g.W.Write.contents c.args.writer.now) (text_written g.W.Write.contents c.args.writer.now) text)
    (sym (no_row c.args.sheet.now c.args.clock.now history c.args.place.channel c.args.view.now c.in_ok-any.any (c.in_ok-any.ensures.any history still) c.if-any.false))
    (appends_nothing (text_written g.W.Write.contents c.args.writer.now))

pub returns-else-any-clause-latest : goal.returns-else-any-clause-latest
returns-else-any-clause-latest g c = λ history kept is.
    let still = subst (λ (l : Latest). AreKept c.args.sheet.now history l) (sym c.in_ok-begin.ensures.latest) kept in
    c.in_ok-any.ensures.latest history still is
