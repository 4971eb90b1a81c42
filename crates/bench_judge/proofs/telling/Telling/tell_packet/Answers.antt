use Rattle.std.proofs.Common.{refl, ap, arith, length, subst}
use Rattle.ch11_f1.specs.Views.{message_of}
use Rattle.ch11_layout.specs.declared.stamps.StampKind.{StampKind}
use Rattle.bench_select.specs.Viewed.{viewed_behind}
use Rattle.bench_select.proofs.Passed.{passing-none, passing-more, passing-all}
use Rattle.bench_judge.specs.Tallies.{IsTelling}
use Rattle.bench_judge.proofs.telling.Telling.tell_packet.Goals as goal

pub messages-init : goal.messages-init
messages-init c = record {
  counted = refl;
  passing = λ history most from is. passing-none (λ hs. IsTelling c.args.rule.now c.args.origins.now most hs c.args.self.now) _ _ _ history from;
}

pub messages-preserved : goal.messages-preserved
messages-preserved c = record {
  counted = omega (arith, c.messages.invariant.counted, ap length c.in-Some.ensures.steps);
  passing = λ history most from is.
      passing-more (λ hs. IsTelling c.args.rule.now c.args.origins.now most hs c.messages.self) (λ hs. IsTelling c.args.rule.now c.args.origins.now most hs c.tell.new.self) _ _ _ _ c.next.new.self
      (message_of c.in-Some.seen) history (c.messages.invariant.passing history most from is) c.in-Some.ensures.steps
      (λ hs now many. rw c.of.ensures at c.in_ok-tell.ensures hs most now (omega (arith, many, is, c.messages.invariant.counted)));
}

pub returns : goal.returns
returns c = λ history most from is.
    subst (λ (kind : StampKind). IsTelling c.args.rule.now c.args.origins.now most (viewed_behind kind c.args.packet.now.header.channel c.args.messages history) c.messages.self) c.of-kind.ensures
    (passing-all (λ hs. IsTelling c.args.rule.now c.args.origins.now most hs c.messages.self) _ _ _ _ history (c.messages.invariant.passing history most from is) c.in_default.ensures.steps.0)
