use Rattle.frame_tree.specs.Tree.{condition_in}
use Rattle.replay.proofs.LatestMet.{finds_back_more, finds_back_all}
use Rattle.replay.proofs.finding.latest_met.Goals as goal

pub loop-track-preserved : goal.loop-track-preserved
loop-track-preserved g c =
    finds_back_more c.args.channels.now (condition_in c.args.condition.now) c.args.tracks.now c.track-item.result c.args.place c.loop-track.track-index c.loop-track.latest c.latest_of_job.result c.later-latest.result
    c.loop-track-test.true c.track-item.is c.loop-track.invariant c.latest_of_job.ensures c.later-latest.ensures

pub returns : goal.returns
returns g c =
    finds_back_all c.args.channels.now (condition_in c.args.condition.now) c.args.tracks.now c.args.place c.loop-track.track-index c.loop-track.latest c.loop-track-test.false c.loop-track.invariant
