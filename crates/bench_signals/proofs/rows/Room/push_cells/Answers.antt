use Rattle.std.proofs.Common.{◌≡◌, ◌<◌, ◌∙◌, ◌||◌, ◌∷◌, length, ap, sym, refl, arith}
use Rattle.std.specs.Prelude.{Some, slice_get}
use Rattle.std.proofs.lemmas.Option.{slice_get-get_or}
use Rattle.signal_dictionary.specs.declared.signals.Signal.{Signal}
use Rattle.bench_signals.proofs.Cells.{any_end, any_more, cells_end, cells_more}
use Rattle.bench_signals.proofs.Keeping.{all_done, done_more, left_more, shown_is}
use Rattle.bench_signals.proofs.rows.Room.push_cells.Goals as goal
use Rattle.bench_signals.proofs.rows.Room.push_cells.Goals.{then-there, else-there}

pub signals-init : goal.signals-init
signals-init c = record {
  left = λ history kept changes k n s above there below. kept changes k n s there below;
  done = λ history kept is changes k n s before there below. absurd (omega arith);
  row = λ history kept. refl;
  any = λ history kept. refl;
}

pub signals-preserved : goal.signals-preserved
signals-preserved c =
    let sheet = c.args.sheet.now in
    let i = c.signals.index in
    let s = c.index-signals-index.result in
    let within : i < length sheet.signals.now = omega arith in
    let there : slice_get sheet.signals.now i ≡ Some s = slice_get-get_or sheet.signals.now i s within ∙ ap (λ (x : Signal). Some x) (sym c.index-signals-index.is) in
    let one = c.in_ok-there.ensures in
    let any : c.if-there.any ≡ (c.in_ok-there.there || c.signals.any) = elim c.if-there.branch [ then-there w ↦ rw (w.any-is, w.if-there.true) refl | else-there w ↦ rw (w.any-is, w.if-there.false) refl ] in
    record {
      left = λ history kept changes. left_more sheet history c.signals.self.latest c.push_cell.new.self.latest i c.args.channel _ (c.signals.invariant.left history kept changes) (one.latest changes);
      done = λ history kept is changes.
          done_more sheet history (c.args.channel, c.args.view.now) c.signals.self.latest c.push_cell.new.self.latest i s is there (c.signals.invariant.left history kept changes) (c.signals.invariant.done history kept is changes) (one.latest changes);
      row = λ history kept.
          cells_more sheet history (c.args.channel, c.args.view.now) sheet.signals.now i s _ c.signals.self.row c.push_cell.new.self.row _ there (shown_is sheet history (c.args.channel, c.args.view.now) c.signals.self.latest i s there (omega arith) (c.signals.invariant.left history kept))
          one.row (c.signals.invariant.row history kept);
      any = λ history kept.
          any_more sheet history (c.args.channel, c.args.view.now) sheet.signals.now i s _ c.signals.any c.in_ok-there.there _ _ there (shown_is sheet history (c.args.channel, c.args.view.now) c.signals.self.latest i s there (omega arith) (c.signals.invariant.left history kept))
          one.any any (c.signals.invariant.any history kept);
    }

pub returns-clause-row : goal.returns-clause-row
returns-clause-row c = λ history kept. cells_end c.args.sheet.now history (c.args.channel, c.args.view.now) c.args.sheet.now.signals.now c.signals.index c.signals.self.row _ (omega arith) (c.signals.invariant.row history kept)

pub returns-clause-any : goal.returns-clause-any
returns-clause-any c = λ history kept. any_end c.args.sheet.now history (c.args.channel, c.args.view.now) c.args.sheet.now.signals.now c.signals.index c.signals.any _ (omega arith) (c.signals.invariant.any history kept)

pub returns-clause-latest : goal.returns-clause-latest
returns-clause-latest c = λ history kept is changes. all_done c.args.sheet.now ((c.args.channel, c.args.view.now) ∷ history) c.signals.self.latest c.signals.index (omega arith) (c.signals.invariant.done history kept is changes)
