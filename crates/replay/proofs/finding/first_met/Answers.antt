use Rattle.frame_tree.specs.Tree.{condition_in}
use Rattle.replay.proofs.FirstMet.{finds_more, finds_all}
use Rattle.replay.proofs.finding.first_met.Goals as goal

pub loop-track-preserved : goal.loop-track-preserved
loop-track-preserved g c =
    finds_more c.args.channels.now (condition_in c.args.condition.now) c.args.tracks.now c.track-item.result c.args.place c.loop-track.track-index c.loop-track.first c.first_of_job.result c.earlier-first.result
    c.loop-track-test.true c.track-item.is c.loop-track.invariant c.first_of_job.ensures c.earlier-first.ensures

pub returns : goal.returns
returns g c =
    finds_all c.args.channels.now (condition_in c.args.condition.now) c.args.tracks.now c.args.place c.loop-track.track-index c.loop-track.first c.loop-track-test.false c.loop-track.invariant
