use Rattle.std.proofs.Common.{◌+◌, sym, subst, arith}
use Rattle.frame_tree.specs.Tree.{condition_in}
use Rattle.replay.specs.Finding.{IsMetBy, FindsBack}
use Rattle.replay.proofs.LatestMet.{latest_here, latest_still, latest_at_end}
use Rattle.replay.proofs.finding.latest_of_job.Goals.{then-is_met, else-is_met}
use Rattle.replay.proofs.finding.latest_of_job.Goals as goal

pub loop-before-preserved : goal.loop-before-preserved
loop-before-preserved g c =
    let before = c.loop-before.before in
    let met = IsMetBy c.args.channels.now (condition_in c.args.condition.now) c.args.track.now in
    elim c.if-is_met.branch [
      | then-is_met w ↦ record {
        heard = c.is_met.ensures.heard;
        latest = subst (FindsBack (before + 1 + 1) met) (sym w.latest-is) (latest_here met (before + 1) (c.is_met.ensures.met w.if-is_met.true));
      }
      | else-is_met w ↦ record {
        heard = c.is_met.ensures.heard;
        latest =
            subst (FindsBack (before + 1 + 1) met) (sym w.latest-is) (latest_still met (before + 1) c.loop-before.latest (c.is_met.ensures.other w.if-is_met.false) c.loop-before.invariant.latest);
      }
    ]

pub returns : goal.returns
returns g c =
    latest_at_end c.args.channels.now (condition_in c.args.condition.now) c.args.track.now c.args.place c.loop-before.before c.loop-before.latest
    (omega (arith, c.loop-before.auto.before-end, c.saturating_sub-before-end.ensures)) (omega (arith, c.loop-before-test.false, c.saturating_sub-before-end.ensures)) c.loop-before.invariant.latest
