use Rattle.std.proofs.Common.{refl, ap, arith, length, subst}
use Rattle.ch11_f1.specs.Views.{message_of}
use Rattle.ch11_layout.specs.declared.stamps.StampKind.{StampKind}
use Rattle.bench_select.specs.Viewed.{viewed_behind}
use Rattle.bench_select.proofs.Passed.{passing-none, passing-more, passing-all}
use Rattle.bench_signals.specs.Counting.{AreCounted}
use Rattle.bench_signals.proofs.counting.Counting.note_packet.Goals as goal

pub messages-init : goal.messages-init
messages-init c = record {
  counted = refl;
  passing = λ history are from. passing-none (λ hs. AreCounted c.args.selection.now c.args.signals.now hs c.args.self.now) _ _ _ history are;
}

pub messages-preserved : goal.messages-preserved
messages-preserved c = record {
  counted = omega (arith, c.messages.invariant.counted, ap length c.in-Some.ensures.steps);
  passing = λ history are from.
      passing-more (λ hs. AreCounted c.args.selection.now c.args.signals.now hs c.messages.self) (λ hs. AreCounted c.args.selection.now c.args.signals.now hs c.note_selected.new.self) _ _ _ _ c.next.new.self
      (message_of c.in-Some.seen) history (c.messages.invariant.passing history are from) c.in-Some.ensures.steps
      (λ hs now many. rw c.of.ensures at c.in_ok-note_selected.ensures hs now (omega (arith, many, from, c.messages.invariant.counted)));
}

pub returns : goal.returns
returns c = λ history are from.
    subst (λ (kind : StampKind). AreCounted c.args.selection.now c.args.signals.now (viewed_behind kind c.args.packet.now.header.channel c.args.messages history) c.messages.self) c.of-kind.ensures
    (passing-all (λ hs. AreCounted c.args.selection.now c.args.signals.now hs c.messages.self) _ _ _ _ history (c.messages.invariant.passing history are from) c.in_default.ensures.steps.0)
