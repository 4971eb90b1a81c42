use Rattle.std.proofs.Common.{◌≡◌, ◌+◌, List, length, sym, ap, ap₂, subst, ◌∙◌, arith}
use Rattle.std.proofs.lemmas.List.{length-append}
use Rattle.mil_bus.specs.Exchange.{BusState}
use Rattle.bc_machine.specs.declared.placed.Placed.{Placed}
use Rattle.bc_machine.specs.declared.progress.Progress.{Progress}
use Rattle.bc_machine.specs.Agendas.{AgendaState, IsSavedAgenda}
use Rattle.bc_machine.specs.Progress.{registers_in, point_in}
use Rattle.bc_machine.specs.Running.{MachineState}
use Rattle.bc_machine.proofs.Kept.{restored_is, back_again}
use Rattle.bc_machine.proofs.States.{same_parts}
use Rattle.bc_machine.proofs.parts.Parts.restore.Goals as goal

pub restore-requires-2 : goal.restore-requires-2
restore-requires-2 c =
    subst (λ (ps : List Placed). IsSavedAgenda ps c.saved.inside.agenda)
    (ap (λ (m : MachineState). m.placed) c.saved.view_is ∙ sym c.requires.placed ∙ sym (ap (λ (m : MachineState). m.placed) c.self.view_is)
    ∙ sym (ap (λ (s : AgendaState). s.placed) c.in_ok-grow.ensures.made) ∙ sym (ap (λ (s : AgendaState). s.placed) c.shrink-2.ensures))
    c.saved.invariant

pub returns-in-Err-clause-same : goal.returns-in-Err-clause-same
returns-in-Err-clause-same c =
    let a = c.self.inside.agenda in
    let agenda = back_again a c.grow.new.self c.shrink.new.self c.saved.inside.agenda.room c.room_left-before.result c.room_left-before.ensures c.in_ok-grow.ensures.made c.shrink.ensures in
    ap₂ (λ (s : AgendaState) (b : BusState). record {
      code = c.self.inside.program;
      plan = c.self.inside.plan;
      placed = s.placed;
      capacity = s.capacity;
      begun = c.self.inside.begun.value.0;
      taken = c.self.inside.progress.taken;
      at = registers_in c.self.inside.progress;
      point = point_in c.self.inside.progress s.made b;
      made = s.made;
      latest = c.self.inside.progress.latest;
    }) agenda c.in-Err.ensures.same
    ∙ c.self.view_is

pub returns-clause-restored : goal.returns-clause-restored
returns-clause-restored c =
    let a = c.self.inside.agenda in
    let s = c.saved.inside in
    let whole = restored_is a c.grow.new.self c.shrink-2.new.self c.restore-2.new.self s.agenda.room s.agenda.made c.in_ok-grow.ensures.made c.shrink-2.ensures c.restore-2.ensures in
    let same : a.placed ≡ c.args.saved.now.placed = ap (λ (m : MachineState). m.placed) c.self.view_is ∙ c.requires.placed in
    let long = ap length (same ∙ sym (ap (λ (m : MachineState). m.placed) c.saved.view_is)) in
    let capacity : length a.placed + s.agenda.room ≡ c.args.saved.now.capacity =
    omega (arith, long, length-append s.placed.value.actions s.posted.value.actions, ap (λ (m : MachineState). m.capacity) c.saved.view_is) in
    same_parts _ c.args.saved.now
    (ap (λ (m : MachineState). m.code) c.self.view_is ∙ c.requires.code)
    (ap (λ (m : MachineState). m.plan) c.self.view_is ∙ c.requires.plan)
    (ap (λ (v : AgendaState). v.placed) whole ∙ same)
    (ap (λ (v : AgendaState). v.capacity) whole ∙ capacity)
    (ap (λ (m : MachineState). m.begun) c.self.view_is ∙ c.requires.begun)
    (ap (λ (p : Progress). p.taken) c.copy-self-inside.ensures ∙ ap (λ (m : MachineState). m.taken) c.saved.view_is)
    (ap registers_in c.copy-self-inside.ensures ∙ ap (λ (m : MachineState). m.at) c.saved.view_is)
    (ap₂ (λ (p : Progress) (b : BusState). point_in p c.restore-2.new.self.made b) c.copy-self-inside.ensures c.in_default.ensures.restored
    ∙ ap (λ (v : AgendaState). point_in s.progress v.made s.bus) whole ∙ ap (λ (m : MachineState). m.point) c.saved.view_is)
    (ap (λ (v : AgendaState). v.made) whole ∙ ap (λ (m : MachineState). m.made) c.saved.view_is)
    (ap (λ (p : Progress). p.latest) c.copy-self-inside.ensures ∙ ap (λ (m : MachineState). m.latest) c.saved.view_is)
