use Rattle.std.proofs.Common.{◌++◌, List, ap, arith, length, map, reverse, subst}
use Rattle.ch11_f1.specs.Views.{message_of}
use Rattle.ch11_layout.specs.declared.stamps.StampKind.{StampKind}
use Rattle.bench_select.specs.Viewed.{Viewed}
use Rattle.bench_decode.specs.ByTime.{AreChosen}
use Rattle.bench_decode.proofs.Passing.{passing-none, passing-more, passing-all, with_channel}
use Rattle.bench_decode.proofs.chosen.Choosing.choose_all.Goals as goal

pub messages-init : goal.messages-init
messages-init c = record { counted = omega arith; passing = λ history are from. passing-none (λ (hs : List Viewed). AreChosen c.args.selection.now hs c.args.self.now) _ _ _ _ history are }

pub messages-preserved : goal.messages-preserved
messages-preserved c = record {
  counted = omega (arith, c.messages.invariant.counted, ap length c.in-Some.ensures.steps);
  passing = λ history are from.
      passing-more (λ (hs : List Viewed). AreChosen c.args.selection.now hs c.messages.self) (λ (hs : List Viewed). AreChosen c.args.selection.now hs c.choose.new.self) _ _ _ _ _ _ c.next.new.self (message_of c.in-Some.seen) history
      (c.messages.invariant.passing history are from) c.in-Some.ensures.steps from c.in_ok-choose.ensures;
}

pub returns : goal.returns
returns c = λ history are from.
    subst (λ (kind : StampKind). AreChosen c.args.selection.now (reverse (map (with_channel kind c.args.packet.now.header.channel) c.args.messages) ++ history) c.messages.self) c.of-kind.ensures
    (passing-all (λ (hs : List Viewed). AreChosen c.args.selection.now hs c.messages.self) _ _ _ _ _ _ history (c.messages.invariant.passing history are from) c.in_default.ensures.steps.0)
