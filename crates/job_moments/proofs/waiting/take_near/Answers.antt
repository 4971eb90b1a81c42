use Rattle.job_moments.specs.Awaiting.{due_of, HasItsCounter}
use Rattle.job_moments.proofs.Grouping.{beside_sleeps}
use Rattle.job_moments.proofs.waiting.take_near.Goals as goal

pub take_at-requires-clause-there : goal.take_at-requires-clause-there
take_at-requires-clause-there g c = c.is_near.ensures.there c.if-is_near.true

pub take_at-requires-clause-still : goal.take_at-requires-clause-still
take_at-requires-clause-still g c = c.is_near.ensures.still c.if-is_near.true

pub returns-then-is_near-clause-beside : goal.returns-then-is_near-clause-beside
returns-then-is_near-clause-beside g c = c.take_at.ensures.beside c.args.near.now.others c.requires.beside

pub returns-clause-beside : goal.returns-clause-beside
returns-clause-beside g c =
    let counts = c.args.counts.now in
    beside_sleeps (HasItsCounter counts.selectors) due_of counts.made c.quiet_beside-near.result c.awake-near.result c.take_from-payload.new.groups
    c.quiet_beside-near.ensures c.take_from-payload.ensures.known
