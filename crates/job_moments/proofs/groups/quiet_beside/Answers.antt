use Rattle.std.proofs.Common.{arith}
use Rattle.job_moments.proofs.Grouping.{beside_more}
use Rattle.job_moments.proofs.groups.quiet_beside.Goals as goal

pub loop-index-preserved : goal.loop-index-preserved
loop-index-preserved g c = beside_more c.within_unless-quiet.result c.loop-index.quiet c.args.place c.loop-index.index c.args.groups.now
    c.index-groups-index.result c.loop-index-test.true c.index-groups-index.is c.within_unless-quiet.ensures.one c.within_unless-quiet.ensures.other
    c.loop-index.invariant

pub returns : goal.returns
returns g c = λ k d lt other. c.loop-index.invariant k d (omega (arith, lt, c.loop-index-test.false)) other
