use Rattle.std.proofs.Common.{◌∙◌, sym, ap, refl, arith}
use Rattle.frame_code.specs.declared.Op.TheVariants as op
use Rattle.mil_monitor.specs.Observed.{observed}
use Rattle.bc_machine.specs.declared.Stepped.TheVariants.{Inserted}
use Rattle.bc_machine.specs.Controller.{insertion_talk}
use Rattle.bc_machine.specs.Running.{MachineState, setting, bus_run, with_inserted, clock_in}
use Rattle.bc_machine.proofs.Rows.{waits_stop, to_row, to_answer, to_inserted, to_inserted_answer, inserted_ticks}
use Rattle.bc_machine.proofs.parts.Parts.halt.Goals as goal

pub returns-in-Some-clause-value : goal.returns-in-Some-clause-value
returns-in-Some-clause-value c =
    let m = c.args.self.now in
    let x = c.in-Some.insertion in
    let waits = waits_stop m op.Halt c.requires.there refl ∙ sym c.waiting.ensures.value ∙ c.in-Some.is in
    c.insert.ensures.value ∙ ap (λ (z : MachineState). with_inserted z x) c.waiting.ensures.same ∙ sym (to_inserted m x waits)

pub returns-in-Some-clause-answer : goal.returns-in-Some-clause-answer
returns-in-Some-clause-answer c =
    let m = c.args.self.now in
    let x = c.in-Some.insertion in
    let waits = waits_stop m op.Halt c.requires.there refl ∙ sym c.waiting.ensures.value ∙ c.in-Some.is in
    c.insert.ensures.answer ∙ ap (λ (z : MachineState). Inserted (observed (insertion_talk (setting z) z.point.gap x (bus_run z)))) c.waiting.ensures.same ∙ sym (to_inserted_answer m x waits)

pub returns-in-Some-clause-soon : goal.returns-in-Some-clause-soon
returns-in-Some-clause-soon c =
    let m = c.args.self.now in
    let waits = waits_stop m op.Halt c.requires.there refl ∙ sym c.waiting.ensures.value ∙ c.in-Some.is in
    omega (arith, c.insert.ensures.soon, inserted_ticks m c.in-Some.insertion waits, ap clock_in c.waiting.ensures.same)

pub returns-in-None-clause-value : goal.returns-in-None-clause-value
returns-in-None-clause-value c =
    let m = c.args.self.now in
    let none = waits_stop m op.Halt c.requires.there refl ∙ sym c.waiting.ensures.value ∙ c.in-None.is in
    c.waiting.ensures.same ∙ to_row m op.Halt c.requires.there m none refl

pub returns-in-None-clause-answer : goal.returns-in-None-clause-answer
returns-in-None-clause-answer c =
    let m = c.args.self.now in
    let none = waits_stop m op.Halt c.requires.there refl ∙ sym c.waiting.ensures.value ∙ c.in-None.is in
    to_answer m op.Halt c.requires.there m _ none (to_row m op.Halt c.requires.there m none refl) refl
