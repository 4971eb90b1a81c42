use Rattle.std.proofs.Common.{ℕ, ◌+◌, ap, arith}
use Rattle.bc_machine.specs.declared.placed.Placed.{Placed}
use Rattle.bc_machine.proofs.Next.{few}
use Rattle.bc_machine.proofs.Posted.{placed_under_way}
use Rattle.bc_machine.proofs.machine.Machine.place.Goals as goal

pub overflow_add-one : goal.overflow_add-one
overflow_add-one c = omega (arith, few c.self.inside.parts c.self.invariant, c.number.ensures)

pub add-requires : goal.add-requires
add-requires c = omega (arith, c.number.ensures, c.self.invariant.number)

pub invariant_of-self : goal.invariant_of-self
invariant_of-self c =
    let one : Placed = record { number = c.number.result + 1; action = c.args.action } in
    placed_under_way c.add.result c.self.inside.parts c.add.new.self one c.self.invariant (ap (λ (n : ℕ). n + 1) c.number.ensures) c.add.ensures.placed c.add.ensures.same

pub returns-clause-under_way : goal.returns-clause-under_way
returns-clause-under_way c = invariant_of-self c
