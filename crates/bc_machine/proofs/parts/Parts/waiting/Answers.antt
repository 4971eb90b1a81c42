use Rattle.std.proofs.Common.{ap, ◌∙◌}
use Rattle.bc_machine.specs.Hosting.{next_insertion}
use Rattle.bc_machine.specs.PlainMachine.{state_in}
use Rattle.bc_machine.specs.Running.{MachineState, most_inserted}
use Rattle.bc_machine.proofs.States.{with_agenda}
use Rattle.bc_machine.proofs.parts.Parts.waiting.Goals as goal

pub returns-clause-value : goal.returns-clause-value
returns-clause-value c =
    let a = c.self.inside.agenda in
    c.next_insertion.ensures.value
    ∙ ap (λ k. next_insertion a.placed k a.made) c.most_inserted-most.ensures
    ∙ ap (λ (z : MachineState). next_insertion z.placed (most_inserted c.args.self.now.code) z.made) c.self.view_is

pub returns-clause-same : goal.returns-clause-same
returns-clause-same c = ap (with_agenda (state_in c.self.inside)) c.next_insertion.ensures.same ∙ c.self.view_is
