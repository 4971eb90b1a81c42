use Rattle.std.proofs.Common.{◌≡◌, ◌<◌, ◌∙◌, ◌∷◌, length, ap, sym, arith}
use Rattle.std.specs.Prelude.{Some, slice_get}
use Rattle.std.proofs.lemmas.Option.{slice_get-get_or}
use Rattle.signal_dictionary.specs.declared.signals.Signal.{Signal}
use Rattle.bench_signals.proofs.Counted.{ahead_more, all_counted, others_more, past_more}
use Rattle.bench_signals.proofs.counting.Counting.note_message.Goals as goal

pub signals-init : goal.signals-init
signals-init c = record {
  ahead = λ selection history are k n s above there below. are.each k n s there below;
  past = λ selection history are is k n s before there below. absurd (omega arith);
  others = λ others. others;
}

pub signals-preserved : goal.signals-preserved
signals-preserved c =
    let signals = c.args.signals.now in
    let i = c.signals.index in
    let s = c.index-signals-index.result in
    let within : i < length signals = omega arith in
    let there : slice_get signals i ≡ Some s = slice_get-get_or signals i s within ∙ ap (λ (x : Signal). Some x) (sym c.index-signals-index.is) in
    let one = c.in_ok-note_signal.ensures in
    let old = c.signals.self in
    let new = c.note_signal.new.self in
    record {
      ahead = λ selection history are. ahead_more selection signals history old new i c.args.channel s.kind _ (c.signals.invariant.ahead selection history are) one;
      past = λ selection history are is.
          past_more selection signals history (c.args.channel, c.args.view.now) old new i s is there (c.signals.invariant.ahead selection history are) (c.signals.invariant.past selection history are is) one;
      others = λ others. others_more i c.args.channel s.kind _ old new one (c.signals.invariant.others others);
    }

pub returns : goal.returns
returns c = λ selection history are is.
    all_counted selection c.args.signals.now ((c.args.channel, c.args.view.now) ∷ history) c.signals.self c.signals.index (omega arith) (c.signals.invariant.past selection history are is) (c.signals.invariant.others are.others)
