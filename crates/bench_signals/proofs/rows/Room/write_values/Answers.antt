use Rattle.std.proofs.Common.{◌≡◌, ◌<◌, ◌∙◌, ◌∷◌, List, length, ap, sym, subst, arith}
use Rattle.std.specs.Prelude.{Some, slice_get}
use Rattle.std.specs.Io.KnownBytes.{Appends}
use Rattle.std.proofs.lemmas.List.{take_all}
use Rattle.std.proofs.lemmas.Option.{slice_get-get_or}
use Rattle.csv.specs.Writing.{text_written}
use Rattle.signal_dictionary.specs.declared.signals.Signal.{Signal}
use Rattle.bench_dump.proofs.Steps.{appends_nothing}
use Rattle.bench_signals.specs.Sheets.{values_text}
use Rattle.bench_signals.proofs.Cells.{values_more}
use Rattle.bench_signals.proofs.Keeping.{all_done, done_more, left_more, shown_is}
use Rattle.bench_signals.proofs.rows.Room.write_values.Goals as goal

pub signals-init : goal.signals-init
signals-init g c = record {
  between = c.requires;
  left = λ history kept changes k n s above there below. kept changes k n s there below;
  done = λ history kept is changes k n s before there below. absurd (omega arith);
  written = λ history kept from. appends_nothing (text_written g.W.Write.contents c.args.writer.now);
}

pub signals-preserved : goal.signals-preserved
signals-preserved g c =
    let sheet = c.args.sheet.now in
    let i = c.signals.index in
    let s = c.index-signals-index.result in
    let within : i < length sheet.signals.now = omega arith in
    let there : slice_get sheet.signals.now i ≡ Some s = slice_get-get_or sheet.signals.now i s within ∙ ap (λ (x : Signal). Some x) (sym c.index-signals-index.is) in
    let one = c.in_ok-write_value.ensures in
    record {
      between = one.between;
      left = λ history kept changes. left_more sheet history c.signals.self.latest c.write_value.new.self.latest i c.args.place.channel _ (c.signals.invariant.left history kept changes) (one.latest changes);
      done = λ history kept is changes.
          done_more sheet history (c.args.place.channel, c.args.view.now) c.signals.self.latest c.write_value.new.self.latest i s is there (c.signals.invariant.left history kept changes) (c.signals.invariant.done history kept is changes) (one.latest changes);
      written = λ history kept from.
          values_more sheet c.args.clock.now history (c.args.place.channel, c.args.view.now) sheet.signals.now i s _ _ _ _ there (shown_is sheet history (c.args.place.channel, c.args.view.now) c.signals.self.latest i s there (omega arith) (c.signals.invariant.left history kept))
          (c.signals.invariant.written history kept from) (rw from at one.written);
    }

pub returns-clause-written : goal.returns-clause-written
returns-clause-written g c = λ history kept from.
    subst (λ (l : List Signal). Appends (text_written g.W.Write.contents c.args.writer.now) (text_written g.W.Write.contents c.signals.writer) (values_text c.args.sheet.now c.args.clock.now history (c.args.place.channel, c.args.view.now) l))
    (take_all c.signals.index c.args.sheet.now.signals.now (omega arith)) (c.signals.invariant.written history kept from)

pub returns-clause-latest : goal.returns-clause-latest
returns-clause-latest g c = λ history kept is changes. all_done c.args.sheet.now ((c.args.place.channel, c.args.view.now) ∷ history) c.signals.self.latest c.signals.index (omega arith) (c.signals.invariant.done history kept is changes)
