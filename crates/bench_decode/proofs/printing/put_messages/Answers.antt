use Rattle.std.proofs.Common.{ap, arith, length, refl, subst}
use Rattle.std.specs.Prelude.{map}
use Rattle.ch11_f1.specs.Views.{message_of}
use Rattle.ch11_layout.specs.declared.stamps.StampKind.{StampKind}
use Rattle.bench_select.proofs.Passed.{with_channel}
use Rattle.bench_decode.specs.Printed.{HavePrinted}
use Rattle.bench_decode.proofs.PrintedLines.{passed_all, passed_count, passed_more, passed_none}
use Rattle.bench_decode.proofs.printing.put_messages.Goals as goal

pub messages-init : goal.messages-init
messages-init g c = record { counted = refl; passing = λ history are from. passed_none _ _ _ history _ _ _ are }

pub messages-preserved : goal.messages-preserved
messages-preserved g c = record {
  counted = omega (arith, c.messages.invariant.counted, ap length c.in-Some.ensures.steps);
  passing = λ history are from.
      let p = c.messages.invariant.passing history are from in
      let count = passed_count _ _ _ history _ _ _ _ _ _ p in
      passed_more _ _ _ history _ _ c.next.new.self (message_of c.in-Some.seen) _ _ _ _ _ _ p c.in-Some.ensures.steps
      (rw c.of.ensures at c.in_ok-put_selected.ensures p.passed p.kept (omega (arith, count, from, c.messages.invariant.counted)));
}

pub returns : goal.returns
returns g c = λ history are from.
    let p = c.messages.invariant.passing history are from in
    subst (λ (kind : StampKind). HavePrinted c.args.output.now history (map (with_channel kind c.args.packet.now.header.channel) c.args.messages) (g.W.Write.contents c.args.out.now) c.args.printing.now (g.W.Write.contents c.messages.out) c.messages.printing) c.of-kind.ensures
    (passed_all _ _ _ history _ _ _ _ _ _ p c.in_default.ensures.steps.0)
