use Rattle.std.proofs.Common.{ap, ◌∙◌}
use Rattle.std.proofs.lemmas.Result.{on_ok_weaker, on_err_weaker}
use Rattle.bc_machine.specs.PlainMachine.{state_in}
use Rattle.bc_machine.specs.Posting.{with_room}
use Rattle.bc_machine.specs.Running.{MachineState}
use Rattle.bc_machine.proofs.States.{with_agenda}
use Rattle.bc_machine.proofs.parts.Parts.room.Goals as goal

pub returns-clause-made : goal.returns-clause-made
returns-clause-made c =
    on_ok_weaker c.room.result (λ e. ap (with_agenda (state_in c.self.inside)) e ∙ ap (λ (z : MachineState). with_room z c.args.count) c.self.view_is) c.room.ensures.made

pub returns-clause-same : goal.returns-clause-same
returns-clause-same c = on_err_weaker c.room.result (λ e. ap (with_agenda (state_in c.self.inside)) e ∙ c.self.view_is) c.room.ensures.same
