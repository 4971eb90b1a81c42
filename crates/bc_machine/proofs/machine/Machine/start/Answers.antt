use Rattle.std.proofs.Common.{sym, subst}
use Rattle.bc_machine.specs.UnderWay.{IsUnderWay}
use Rattle.bc_machine.proofs.Steps.{under_way_at_start}
use Rattle.bc_machine.proofs.machine.Machine.start.Goals as goal

pub invariant_of-result : goal.invariant_of-result
invariant_of-result c =
    subst IsUnderWay (sym c.start.ensures.value) (under_way_at_start c.args.program c.args.bus c.args.plan c.args.placed c.start.ensures.loadable c.start.ensures.within c.start.ensures.short c.requires)

pub returns-clause-under_way : goal.returns-clause-under_way
returns-clause-under_way c = invariant_of-result c
