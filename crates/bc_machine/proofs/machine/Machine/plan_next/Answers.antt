use Rattle.std.proofs.Common.{arith}
use Rattle.bc_machine.proofs.Next.{few}
use Rattle.bc_machine.proofs.Posted.{planned_under_way}
use Rattle.bc_machine.proofs.machine.Machine.plan_next.Goals as goal

pub plan_next-requires : goal.plan_next-requires
plan_next-requires c = omega (arith, few c.self.inside.parts c.self.invariant)

pub invariant_of-self : goal.invariant_of-self
invariant_of-self c = planned_under_way c.plan_next.result c.self.inside.parts c.plan_next.new.self c.args.fault c.self.invariant c.plan_next.ensures.planned c.plan_next.ensures.same

pub returns-clause-under_way : goal.returns-clause-under_way
returns-clause-under_way c = invariant_of-self c
