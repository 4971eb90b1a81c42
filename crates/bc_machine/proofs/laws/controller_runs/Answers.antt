use Rattle.bc_machine.specs.Running.{started}
use Rattle.bc_machine.proofs.Steps.{never, running_at_start, after_running, halts_after, own_after, all_after}
use Rattle.std.proofs.Common.{refl}
use Rattle.bc_machine.specs.Running.{after_steps}
use Rattle.bc_machine.proofs.laws.controller_runs.Goals as goal

pub returns-clause-never_stuck : goal.returns-clause-never_stuck
returns-clause-never_stuck c code b plan placed ok n =
    let m = started code b plan placed in
    never c.loadable_runs.ensures.never_stuck (after_steps n m) (after_running n m (running_at_start code b plan placed ok))

pub returns-clause-messages : goal.returns-clause-messages
returns-clause-messages c code b plan placed ok n = own_after c.loadable_runs.ensures.messages n (started code b plan placed) (running_at_start code b plan placed ok)

pub returns-clause-all_messages : goal.returns-clause-all_messages
returns-clause-all_messages c code b plan placed ok n few = all_after c.loadable_runs.ensures.messages n (started code b plan placed) (running_at_start code b plan placed ok) few

pub returns-clause-halts : goal.returns-clause-halts
returns-clause-halts c code b plan placed ok = halts_after c.loadable_runs.ensures.never_stuck c.loadable_runs.ensures.halts (started code b plan placed) (running_at_start code b plan placed ok) refl
