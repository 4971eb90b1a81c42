use Rattle.std.proofs.Common.{◌≡◌, ◌++◌, refl, arith}
use Rattle.bench_stat.specs.Chosen.{picked}
use Rattle.bench_stat.specs.Steps.{tally_of}
use Rattle.bench_stat.proofs.Histories.{begins, goes_on, ends}
use Rattle.bench_stat.proofs.streaming.note_selected.Goals as goal

pub messages-init : goal.messages-init
messages-init c = record {
  counted = refl;
  along = λ history is. begins (λ past. c.args.tally.now ≡ tally_of c.args.channel (past ++ history)) (picked c.args.selection.now c.args.kind c.args.channel c.args.before c.args.messages) is;
}

pub messages-preserved : goal.messages-preserved
messages-preserved c = record {
  counted = omega (arith, c.next_selected.ensures.counted, c.messages.invariant.counted);
  along = λ history is.
      goes_on (λ past. c.messages.tally ≡ tally_of c.args.channel (past ++ history)) (λ past. c.note.new.self ≡ tally_of c.args.channel (past ++ history))
      (picked c.args.selection.now c.args.kind c.args.channel c.args.before c.args.messages) (picked c.args.selection.now c.args.kind c.args.channel c.messages.number c.messages.rest)
      (picked c.args.selection.now c.args.kind c.args.channel c.next_selected.new.before c.next_selected.new.messages) c.in-Some.view (c.messages.invariant.along history is) c.in-Some.ensures.picked
      (λ past. c.note.ensures c.args.channel (past ++ history));
}

pub returns : goal.returns
returns c = λ history is.
    ends (λ past. c.messages.tally ≡ tally_of c.args.channel (past ++ history)) (picked c.args.selection.now c.args.kind c.args.channel c.args.before c.args.messages) (picked c.args.selection.now c.args.kind c.args.channel c.messages.number c.messages.rest)
    (c.messages.invariant.along history is) c.in_default.ensures.picked.0
