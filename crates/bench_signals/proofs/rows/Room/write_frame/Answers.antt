use Rattle.std.proofs.Common.{◌∙◌, List, ◌∷◌, ℕ, sym, subst}
use Rattle.std.specs.Prelude.{OnOk}
use Rattle.bench_export.specs.Between.{Writes}
use Rattle.bench_signals.specs.Latest.{AreKept}
use Rattle.bench_signals.specs.declared.latest.Latest.{Latest}
use Rattle.bench_signals.proofs.Parts.{always}
use Rattle.bench_signals.proofs.Written.{frame_is}
use Rattle.bench_signals.proofs.rows.Room.write_frame.Goals as goal

pub returns-clause-written : goal.returns-clause-written
returns-clause-written g c = λ history kept from.
    let still = subst (λ (l : Latest). AreKept c.args.sheet.now history l) (sym (c.in_ok-push_frame.ensures.latest ∙ c.in_ok-begin.ensures.latest)) kept in
    subst (λ (text : List ℕ). OnOk c.write_row.result (Writes g.W.Write.contents c.args.writer.now c.write_row.new.writer text))
    (frame_is c.args.sheet.now c.args.clock.now history c.args.place.number c.args.place.channel c.args.view.now c.is_prefixed.result c.begin.new.self.row c.push_frame.new.self.row c.push_cells.new.self.row from c.is_prefixed.ensures c.in_ok-begin.ensures.row c.in_ok-push_frame.ensures.row (c.in_ok-_any.ensures.row history still))
    c.write_row.ensures.written

pub returns-clause-latest : goal.returns-clause-latest
returns-clause-latest g c = λ history kept is.
    let still = subst (λ (l : Latest). AreKept c.args.sheet.now history l) (sym (c.in_ok-push_frame.ensures.latest ∙ c.in_ok-begin.ensures.latest)) kept in
    always (AreKept c.args.sheet.now ((c.args.place.channel, c.args.view.now) ∷ history) c.push_cells.new.self.latest) c.write_row.result (c.in_ok-_any.ensures.latest history still is)
