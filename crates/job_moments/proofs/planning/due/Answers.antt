use Rattle.std.proofs.Common.{sym, subst}
use Rattle.job_moments.specs.Rules.{KnowsGroup}
use Rattle.job_moments.proofs.planning.due.Goals as goal

pub add_group-requires-clause-known : goal.add_group-requires-clause-known
add_group-requires-clause-known c = subst (KnowsGroup c.args.counts.now) (sym c.group-item.is)
    (c.requires.known c.loop-group.group-index c.group-item.result c.loop-group-test.true)
