use Rattle.std.proofs.Common.{◌≤◌, refl, arith}
use Rattle.frame_tree.specs.Tree.{condition_in}
use Rattle.replay.proofs.FirstMet.{none_next, met_within}
use Rattle.replay.proofs.finding.first_of_job.Goals as goal

pub returns-then-is_met : goal.returns-then-is_met
returns-then-is_met g c = record {
  past = omega (arith, c.loop-before.invariant.from);
  met = c.if-is_met.ensures.met refl;
  first = λ m past less. c.loop-before.invariant.none m past (omega (arith, less));
}

pub loop-before-preserved : goal.loop-before-preserved
loop-before-preserved g c = record {
  from = omega (arith, c.loop-before.invariant.from);
  heard = c.if-is_met.ensures.heard;
  none = none_next c.args.channels.now (condition_in c.args.condition.now) c.args.track.now c.loop-before.before c.args.place c.loop-before.invariant.none (c.if-is_met.ensures.other refl);
}

pub returns : goal.returns
returns g c m past met =
    let within : m ≤ _ = met_within c.args.channels.now (condition_in c.args.condition.now) c.args.track.now m met in
    c.loop-before.invariant.none m past (omega (arith, within, c.loop-before-test.false)) met
