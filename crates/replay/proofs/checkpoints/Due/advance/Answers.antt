use Rattle.replay.proofs.Keeping.{counts_on}
use Rattle.replay.proofs.checkpoints.Due.advance.Goals as goal

pub returns-clause-counted : goal.returns-clause-counted
returns-clause-counted c =
    counts_on c.args.self.now c.args.channels.now c.min-to.result c.count.result c.requires.counted c.requires.within c.min-to.ensures c.count.ensures.value
