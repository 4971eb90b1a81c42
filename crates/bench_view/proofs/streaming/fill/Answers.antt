use Rattle.std.proofs.Common.{refl, ap, arith, length, subst}
use Rattle.ch11_f1.specs.Views.{message_of}
use Rattle.ch11_layout.specs.declared.stamps.StampKind.{StampKind}
use Rattle.bench_select.specs.Viewed.{viewed_behind}
use Rattle.bench_select.proofs.Passed.{passing-none, passing-more, passing-all}
use Rattle.bench_view.specs.Filling.{AreFilled}
use Rattle.bench_view.proofs.streaming.fill.Goals as goal

pub messages-init : goal.messages-init
messages-init c = record {
  counted = refl;
  few = c.requires.few;
  passing = λ front history are from. passing-none (λ hs. AreFilled front c.args.asked.now.signals.now c.args.asked.now.selection hs c.args.filling.now) _ _ _ history are;
}

pub messages-preserved : goal.messages-preserved
messages-preserved c = record {
  counted = omega (arith, c.messages.invariant.counted, ap length c.in-Some.ensures.steps);
  few = c.in_ok-take.ensures.few;
  passing = λ front history are from.
      passing-more (λ hs. AreFilled front c.args.asked.now.signals.now c.args.asked.now.selection hs c.messages.filling)
      (λ hs. AreFilled front c.args.asked.now.signals.now c.args.asked.now.selection hs c.take.new.self) _ _ _ _ c.next.new.self
      (message_of c.in-Some.seen) history (c.messages.invariant.passing front history are from) c.in-Some.ensures.steps
      (λ hs now many. rw c.of-view.ensures at c.in_ok-take.ensures.filled front hs now (omega (arith, many, from, c.messages.invariant.counted)));
}

pub returns-clause-filled : goal.returns-clause-filled
returns-clause-filled c = λ front history are from.
    subst (λ (kind : StampKind). AreFilled front c.args.asked.now.signals.now c.args.asked.now.selection (viewed_behind kind c.args.packet.now.header.channel c.args.messages history) c.messages.filling) c.of-kind.ensures
    (passing-all (λ hs. AreFilled front c.args.asked.now.signals.now c.args.asked.now.selection hs c.messages.filling) _ _ _ _ history (c.messages.invariant.passing front history are from) c.in_default.ensures.steps.0)
