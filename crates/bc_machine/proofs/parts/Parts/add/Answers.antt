use Rattle.std.proofs.Common.{◌≡◌, ◌+◌, ◌<◌, ◌≤◌, ◌++◌, ◌∷◌, [], length, sym, ap, subst, ◌∙◌}
use Rattle.std.proofs.lemmas.Result.{on_ok_weaker, on_err_weaker}
use Rattle.bc_machine.specs.PlainMachine.{state_in}
use Rattle.bc_machine.specs.Posting.{with_placed}
use Rattle.bc_machine.specs.Running.{MachineState}
use Rattle.bc_machine.proofs.States.{with_agenda}
use Rattle.bc_machine.proofs.parts.Parts.add.Goals as goal

pub add-requires : goal.add-requires
add-requires c = subst (λ (z : MachineState). c.args.one.number ≡ length z.made + 1) (sym c.self.view_is) c.requires

pub returns-clause-placed : goal.returns-clause-placed
returns-clause-placed c =
    on_ok_weaker c.add.result (λ e. ap (with_agenda (state_in c.self.inside)) e ∙ ap (λ (z : MachineState). with_placed z (z.placed ++ c.args.one ∷ [])) c.self.view_is) c.add.ensures.placed

pub returns-clause-there : goal.returns-clause-there
returns-clause-there c = on_ok_weaker c.add.result (λ h. subst (λ (z : MachineState). length z.placed < z.capacity) c.self.view_is h) c.add.ensures.there

pub returns-clause-used_up : goal.returns-clause-used_up
returns-clause-used_up c = on_err_weaker c.add.result (λ h. subst (λ (z : MachineState). z.capacity ≤ length z.placed) c.self.view_is h) c.add.ensures.used_up

pub returns-clause-same : goal.returns-clause-same
returns-clause-same c = on_err_weaker c.add.result (λ e. ap (with_agenda (state_in c.self.inside)) e ∙ c.self.view_is) c.add.ensures.same
