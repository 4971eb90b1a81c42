use Rattle.std.proofs.Common.{◌≡◌, true, List, ℕ, sym, subst}
use Rattle.std.specs.Prelude.{OnOk, Option}
use Rattle.std.specs.Io.KnownBytes.{Appends}
use Rattle.csv.specs.Writing.{text_written}
use Rattle.bench_dump.proofs.Steps.{appends_nothing}
use Rattle.bench_export.specs.Between.{Writes}
use Rattle.bench_signals.specs.Latest.{IsPassed}
use Rattle.bench_signals.specs.Sheets.{value_row}
use Rattle.bench_signals.specs.Values.{text_in}
use Rattle.bench_signals.specs.declared.latest.Latest.{Latest}
use Rattle.bench_signals.proofs.Parts.{always}
use Rattle.bench_signals.proofs.Written.{told_none, told_some}
use Rattle.bench_signals.proofs.rows.Room.write_value.Goals as goal

pub returns-then-there-clause-written : goal.returns-then-there-clause-written
returns-then-there-clause-written g c =
    subst (λ (shown : Option (List ℕ)). OnOk c.write_told.result (Writes g.W.Write.contents c.args.writer.now c.write_told.new.writer (value_row c.args.sheet.now c.args.clock.now c.args.place.number c.args.place.channel c.args.view.now c.args.of.signal.now shown)))
    (told_some c.in_ok-there.there c.take.new.self.value.items _ c.in_ok-there.ensures.value c.if-there.true)
    c.write_told.ensures.written

pub returns-else-there-clause-written : goal.returns-else-there-clause-written
returns-else-there-clause-written g c =
    subst (λ (shown : Option (List ℕ)). Appends (text_written g.W.Write.contents c.args.writer.now) (text_written g.W.Write.contents c.args.writer.now) (value_row c.args.sheet.now c.args.clock.now c.args.place.number c.args.place.channel c.args.view.now c.args.of.signal.now shown))
    (told_none c.in_ok-there.there c.take.new.self.value.items _ c.in_ok-there.ensures.value c.if-there.false)
    (appends_nothing (text_written g.W.Write.contents c.args.writer.now))

pub returns-then-there-clause-latest : goal.returns-then-there-clause-latest
returns-then-there-clause-latest g c =
    let text = text_in c.args.of.signal.now c.args.place.channel c.args.view.now in
    always (c.args.sheet.now.changes ≡ true → IsPassed c.args.of.index c.args.place.channel text c.args.self.now.latest c.write_told.new.self.latest) c.write_told.result
    (λ changes. subst (λ (l : Latest). IsPassed c.args.of.index c.args.place.channel text c.args.self.now.latest l) (sym c.write_told.ensures.latest) (c.in_ok-there.ensures.latest changes))
