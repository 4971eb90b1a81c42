use Rattle.std.proofs.Common.{◌≡◌, List, ◌++◌, length, sym, ap, ap₂, subst, ◌∙◌, arith}
use Rattle.std.proofs.lemmas.List.{length-append}
use Rattle.mil_bus.specs.Exchange.{BusState}
use Rattle.bc_machine.specs.declared.placed.Placed.{Placed}
use Rattle.bc_machine.specs.declared.progress.Progress.{Progress}
use Rattle.bc_machine.specs.Agendas.{IsSavedAgenda}
use Rattle.bc_machine.specs.MadeMessages.{MadeMessage}
use Rattle.bc_machine.specs.PlainMachine.{state_in}
use Rattle.bc_machine.specs.Progress.{registers_in, point_in}
use Rattle.bc_machine.specs.Schedules.{ScheduleState}
use Rattle.bc_machine.proofs.States.{same_parts}
use Rattle.bc_machine.proofs.parts.Parts.save.Goals as goal

pub invariant_of-result : goal.invariant_of-result
invariant_of-result c =
    let placed = ap₂ (λ (s t : ScheduleState). s.actions ++ t.actions) c.of-3.ensures c.of-4.ensures ∙ sym c.schedules.ensures in
    subst (λ (ps : List Placed). IsSavedAgenda ps c.in_ok-save.field-0) (sym placed) c.in_ok-save.ensures.saved

pub returns : goal.returns
returns c =
    let m = state_in c.self.inside in
    let a = c.self.inside.agenda in
    let placed : c.of-3.result.value.actions ++ c.of-4.result.value.actions ≡ a.placed =
    ap₂ (λ (s t : ScheduleState). s.actions ++ t.actions) c.of-3.ensures c.of-4.ensures ∙ sym c.schedules.ensures in
    same_parts _ m c.of.ensures c.of-2.ensures placed
    (omega (arith, ap length placed, length-append c.of-3.result.value.actions c.of-4.result.value.actions, c.in_ok-save.ensures.room))
    c.same.ensures (ap (λ (p : Progress). p.taken) c.copy.ensures) (ap registers_in c.copy.ensures)
    (ap₂ (λ (p : Progress) (b : BusState). point_in p c.in_ok-save.field-0.made b) c.copy.ensures c.in_ok-save-2.ensures
    ∙ ap (λ (ms : List MadeMessage). point_in c.self.inside.progress ms c.self.inside.bus) c.in_ok-save.ensures.made)
    c.in_ok-save.ensures.made (ap (λ (p : Progress). p.latest) c.copy.ensures)
    ∙ c.self.view_is
