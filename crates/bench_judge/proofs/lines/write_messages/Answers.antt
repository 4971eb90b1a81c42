use Rattle.std.proofs.Common.{refl, ap, arith, length, subst}
use Rattle.ch11_f1.specs.Views.{message_of}
use Rattle.ch11_layout.specs.declared.stamps.StampKind.{StampKind}
use Rattle.bench_select.specs.Viewed.{viewed_behind}
use Rattle.bench_select.proofs.Passed.{passing-none, passing-more, passing-all}
use Rattle.bench_judge.specs.Tallies.{IsWriting}
use Rattle.bench_judge.proofs.lines.write_messages.Goals as goal

pub messages-init : goal.messages-init
messages-init g c = record {
  counted = refl;
  passing = λ history got is from. passing-none (λ hs. IsWriting (g.T.Tallied.is_tally c.args.rule.now c.args.origins.now) (g.T.Tallied.misses_next c.args.rule.now c.args.origins.now) (g.T.Tallied.line_of c.args.rule.now) got hs (g.W.Write.contents c.args.out.now) c.args.tally.now) _ _ _ history is;
}

pub messages-preserved : goal.messages-preserved
messages-preserved g c = record {
  counted = omega (arith, c.messages.invariant.counted, ap length c.in-Some.ensures.steps);
  passing = λ history got is from.
      passing-more (λ hs. IsWriting (g.T.Tallied.is_tally c.args.rule.now c.args.origins.now) (g.T.Tallied.misses_next c.args.rule.now c.args.origins.now) (g.T.Tallied.line_of c.args.rule.now) got hs (g.W.Write.contents c.messages.out) c.messages.tally)
      (λ hs. IsWriting (g.T.Tallied.is_tally c.args.rule.now c.args.origins.now) (g.T.Tallied.misses_next c.args.rule.now c.args.origins.now) (g.T.Tallied.line_of c.args.rule.now) got hs (g.W.Write.contents c.write_message.new.out) c.write_message.new.tally) _ _ _ _ c.next.new.self
      (message_of c.in-Some.seen) history (c.messages.invariant.passing history got is from) c.in-Some.ensures.steps
      (λ hs now many. rw c.of-view.ensures at c.in_ok-write_message.ensures hs got now (omega (arith, many, from, c.messages.invariant.counted)));
}

pub returns : goal.returns
returns g c = λ history got is from.
    subst (λ (kind : StampKind). IsWriting (g.T.Tallied.is_tally c.args.rule.now c.args.origins.now) (g.T.Tallied.misses_next c.args.rule.now c.args.origins.now) (g.T.Tallied.line_of c.args.rule.now) got (viewed_behind kind c.args.packet.now.header.channel c.args.messages history) (g.W.Write.contents c.messages.out) c.messages.tally) c.of-kind.ensures
    (passing-all (λ hs. IsWriting (g.T.Tallied.is_tally c.args.rule.now c.args.origins.now) (g.T.Tallied.misses_next c.args.rule.now c.args.origins.now) (g.T.Tallied.line_of c.args.rule.now) got hs (g.W.Write.contents c.messages.out) c.messages.tally) _ _ _ _ history (c.messages.invariant.passing history got is from) c.in_default.ensures.steps.0)
