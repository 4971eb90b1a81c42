use Rattle.std.proofs.Common.{ap, arith, length, subst}
use Rattle.ch11_f1.specs.Views.{message_of}
use Rattle.ch11_layout.specs.declared.stamps.StampKind.{StampKind}
use Rattle.bench_select.specs.Viewed.{viewed_behind}
use Rattle.bench_select.proofs.Passed.{passing-none, passing-more, passing-all}
use Rattle.bench_judge.specs.Tallies.{AreTallies}
use Rattle.bench_judge.proofs.judging.note_messages.Goals as goal

pub messages-init : goal.messages-init
messages-init g c = record { many = c.requires; passing = λ history are few. passing-none (λ hs. AreTallies g.T.Tallied.is_tally c.args.rules.now c.args.origins.now hs c.args.tallies.now) _ _ _ history are }

pub messages-preserved : goal.messages-preserved
messages-preserved g c = record {
  many = omega (arith, c.note_message.auto.tallies, c.messages.invariant.many);
  passing = λ history are few.
      passing-more (λ hs. AreTallies g.T.Tallied.is_tally c.args.rules.now c.args.origins.now hs c.messages.tallies) (λ hs. AreTallies g.T.Tallied.is_tally c.args.rules.now c.args.origins.now hs c.note_message.new.tallies) _ _ _ _ c.next.new.self (message_of c.in-Some.seen) history
      (c.messages.invariant.passing history are few) c.in-Some.ensures.steps
      (λ hs now many. rw c.of.ensures at c.in_ok-note_message.ensures hs now (omega (arith, many, few, ap length c.in-Some.ensures.steps)));
}

pub returns : goal.returns
returns g c = λ history are few.
    subst (λ (kind : StampKind). AreTallies g.T.Tallied.is_tally c.args.rules.now c.args.origins.now (viewed_behind kind c.args.header.now.channel c.args.messages history) c.messages.tallies) c.of-kind.ensures
    (passing-all (λ hs. AreTallies g.T.Tallied.is_tally c.args.rules.now c.args.origins.now hs c.messages.tallies) _ _ _ _ history (c.messages.invariant.passing history are few) c.in_default.ensures.steps.0)
