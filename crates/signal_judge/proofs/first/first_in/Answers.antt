use Rattle.std.proofs.Common.{refl, ap, arith, length, subst}
use Rattle.ch11_f1.specs.Views.{message_of}
use Rattle.ch11_layout.specs.declared.stamps.StampKind.{StampKind}
use Rattle.bench_select.specs.Viewed.{viewed_behind}
use Rattle.signal_judge.specs.Tallies.{IsFinding}
use Rattle.bench_select.proofs.Passed.{passing-none, passing-more, passing-all}
use Rattle.signal_judge.proofs.first.first_in.Goals as goal

pub messages-init : goal.messages-init
messages-init c = record {
  counted = refl;
  passing = λ history from is. passing-none (λ hs. IsFinding c.args.rule.now c.args.origins.now c.args.most hs c.args.found.now.items c.args.tally.now) _ _ _ history from;
}

pub messages-preserved : goal.messages-preserved
messages-preserved c = record {
  counted = omega (arith, c.messages.invariant.counted, ap length c.in-Some.ensures.steps);
  passing = λ history from is.
      passing-more (λ hs. IsFinding c.args.rule.now c.args.origins.now c.args.most hs c.messages.found.items c.messages.tally) (λ hs. IsFinding c.args.rule.now c.args.origins.now c.args.most hs c.note_first.new.found.items c.note_first.new.tally) _ _ _ _ c.next.new.self
      (message_of c.in-Some.seen) history (c.messages.invariant.passing history from is) c.in-Some.ensures.steps
      (λ hs now many. rw c.of.ensures at c.in_ok-note_first.ensures hs now (omega (arith, many, is, c.messages.invariant.counted)));
}

pub returns : goal.returns
returns c = λ history from is.
    subst (λ (kind : StampKind). IsFinding c.args.rule.now c.args.origins.now c.args.most (viewed_behind kind c.args.packet.now.header.channel c.args.messages history) c.messages.found.items c.messages.tally) c.of-kind.ensures
    (passing-all (λ hs. IsFinding c.args.rule.now c.args.origins.now c.args.most hs c.messages.found.items c.messages.tally) _ _ _ _ history (c.messages.invariant.passing history from is) c.in_default.ensures.steps.0)
