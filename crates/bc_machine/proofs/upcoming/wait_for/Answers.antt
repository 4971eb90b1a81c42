use Rattle.std.proofs.Common.{sym, ap, ◌∙◌}
use Rattle.bc_machine.specs.Coming.{held_by}
use Rattle.bc_machine.proofs.upcoming.wait_for.Goals as goal

pub returns-in-Some : goal.returns-in-Some
returns-in-Some c = c.hold.ensures.bus ∙ ap (λ o. held_by o c.args.bus.now) (sym c.in-Some.is)

pub returns-in_default : goal.returns-in_default
returns-in_default c = ap (λ o. held_by o c.args.bus.now) (sym c.in_default.is)
