use Rattle.std.proofs.Common.{◌++◌, refl, arith}
use Rattle.bench_stat.specs.Chosen.{picked}
use Rattle.bench_stat.specs.Told.{IsFollowed}
use Rattle.bench_stat.proofs.Histories.{begins, goes_on, ends}
use Rattle.bench_stat.proofs.followed.Followed.count_selected.Goals as goal

pub messages-init : goal.messages-init
messages-init c = record {
  counted = refl;
  along = λ shown history is. begins (λ past. IsFollowed shown (past ++ history) c.args.self.now) (picked c.args.selection.now c.args.kind c.args.channel c.args.before c.args.messages) is;
}

pub messages-preserved : goal.messages-preserved
messages-preserved c = record {
  counted = omega (arith, c.next_selected.ensures.counted, c.messages.invariant.counted);
  along = λ shown history is.
      goes_on (λ past. IsFollowed shown (past ++ history) c.messages.self) (λ past. IsFollowed shown (past ++ history) c.count.new.self)
      (picked c.args.selection.now c.args.kind c.args.channel c.args.before c.args.messages) (picked c.args.selection.now c.args.kind c.args.channel c.messages.number c.messages.rest)
      (picked c.args.selection.now c.args.kind c.args.channel c.next_selected.new.before c.next_selected.new.messages) c.in-Some.view (c.messages.invariant.along shown history is) c.in-Some.ensures.picked
      (λ past. c.count.ensures shown (past ++ history));
}

pub returns : goal.returns
returns c = λ shown history is.
    ends (λ past. IsFollowed shown (past ++ history) c.messages.self) (picked c.args.selection.now c.args.kind c.args.channel c.args.before c.args.messages) (picked c.args.selection.now c.args.kind c.args.channel c.messages.number c.messages.rest)
    (c.messages.invariant.along shown history is) c.in_default.ensures.picked.0
