use Rattle.std.proofs.Common.{◌∙◌, arith}
use Rattle.bench_core.proofs.Posting.{left_out}
use Rattle.bench_core.proofs.posted.add_posted.Goals as goal

pub returns-else-one-le-LAST-clause-ordered : goal.returns-else-one-le-LAST-clause-ordered
returns-else-one-le-LAST-clause-ordered c = λ actions same. same ∙ left_out 1000000 actions c.args.one (omega (arith, c.if-one-le-LAST.false))
