use Rattle.std.proofs.Common.{◌<◌, ◌∙◌, cond, length, sym, ap, subst, arith}
use Rattle.frame_code.specs.declared.Op.TheVariants as op
use Rattle.frame_code.specs.Table.{sends}
use Rattle.mil_monitor.specs.Observed.{observed}
use Rattle.std.specs.Prelude.{slice_get}
use Rattle.bc_machine.specs.declared.Stepped.TheVariants.{Inserted}
use Rattle.bc_machine.specs.Controller.{insertion_talk}
use Rattle.bc_machine.specs.Hosting.{next_insertion}
use Rattle.bc_machine.specs.Moves.{line_of}
use Rattle.bc_machine.specs.Running.{MachineState, setting, bus_run, world_in, frames_point, most_inserted, moved_by, with_inserted, clock_in}
use Rattle.bc_machine.proofs.Rows.{waits_stop, to_row, to_answer, ticks, to_inserted, to_inserted_answer, inserted_ticks}
use Rattle.bc_machine.proofs.Sent.{either_stops, either_row, either_answer, either_ticks, message_there}
use Rattle.bc_machine.proofs.parts.Parts.send_or_insert.Goals as goal

pub insert-requires-clause-number : goal.insert-requires-clause-number
insert-requires-clause-number c = omega (arith, c.requires.able.number, ap (λ (z : MachineState). z.point.number) c.waiting.ensures.same)

pub insert-requires-clause-counted : goal.insert-requires-clause-counted
insert-requires-clause-counted c =
    ap (λ (z : MachineState). z.point.number) c.waiting.ensures.same ∙ c.requires.able.counted ∙ sym (ap (λ (z : MachineState). length z.made) c.waiting.ensures.same)

pub insert-requires-clause-clock : goal.insert-requires-clause-clock
insert-requires-clause-clock c = omega (arith, c.requires.able.clock, ap clock_in c.waiting.ensures.same)

pub insert-requires-clause-next : goal.insert-requires-clause-next
insert-requires-clause-next c =
    ap (λ (z : MachineState). next_insertion z.placed (most_inserted z.code) z.made) c.waiting.ensures.same ∙ sym c.waiting.ensures.value ∙ c.in-Some.is

pub send-requires-clause-message : goal.send-requires-clause-message
send-requires-clause-message c =
    subst (λ (z : MachineState). c.args.index < length z.code.messages) (sym c.waiting.ensures.same)
    (message_there c.args.self.now c.args.alternates c.args.index c.requires.there c.requires.able.going)

pub send-requires-clause-counted : goal.send-requires-clause-counted
send-requires-clause-counted c =
    ap (λ (z : MachineState). z.point.number) c.waiting.ensures.same ∙ c.requires.able.counted ∙ sym (ap (λ (z : MachineState). length z.made) c.waiting.ensures.same)

pub send-requires-clause-none : goal.send-requires-clause-none
send-requires-clause-none c =
    ap (λ (z : MachineState). next_insertion z.placed (most_inserted z.code) z.made) c.waiting.ensures.same ∙ sym c.waiting.ensures.value ∙ c.in-None.is

pub returns-in-Some-clause-value : goal.returns-in-Some-clause-value
returns-in-Some-clause-value c =
    let m = c.args.self.now in
    let o = cond c.args.alternates (op.Alt c.args.index) (op.Send c.args.index) in
    let x = c.in-Some.insertion in
    let waits = waits_stop m o c.requires.there (either_stops c.args.alternates c.args.index) ∙ sym c.waiting.ensures.value ∙ c.in-Some.is in
    c.insert.ensures.value ∙ ap (λ (z : MachineState). with_inserted z x) c.waiting.ensures.same ∙ sym (to_inserted m x waits)

pub returns-in-Some-clause-answer : goal.returns-in-Some-clause-answer
returns-in-Some-clause-answer c =
    let m = c.args.self.now in
    let o = cond c.args.alternates (op.Alt c.args.index) (op.Send c.args.index) in
    let x = c.in-Some.insertion in
    let waits = waits_stop m o c.requires.there (either_stops c.args.alternates c.args.index) ∙ sym c.waiting.ensures.value ∙ c.in-Some.is in
    c.insert.ensures.answer ∙ ap (λ (z : MachineState). Inserted (observed (insertion_talk (setting z) z.point.gap x (bus_run z)))) c.waiting.ensures.same ∙ sym (to_inserted_answer m x waits)

pub returns-in-Some-clause-soon : goal.returns-in-Some-clause-soon
returns-in-Some-clause-soon c =
    let m = c.args.self.now in
    let o = cond c.args.alternates (op.Alt c.args.index) (op.Send c.args.index) in
    let waits = waits_stop m o c.requires.there (either_stops c.args.alternates c.args.index) ∙ sym c.waiting.ensures.value ∙ c.in-Some.is in
    omega (arith, c.insert.ensures.soon, inserted_ticks m c.in-Some.insertion waits, ap clock_in c.waiting.ensures.same)

pub returns-in-None-clause-value : goal.returns-in-None-clause-value
returns-in-None-clause-value c =
    let m = c.args.self.now in
    let o = cond c.args.alternates (op.Alt c.args.index) (op.Send c.args.index) in
    let none = waits_stop m o c.requires.there (either_stops c.args.alternates c.args.index) ∙ sym c.waiting.ensures.value ∙ c.in-None.is in
    to_row m o c.requires.there c.send.new.self none
    (c.send.ensures.value
    ∙ ap (λ (z : MachineState). moved_by (sends (world_in z) (slice_get z.code.messages c.args.index) (line_of c.args.alternates z.at.line) z.at (frames_point z)) z) c.waiting.ensures.same
    ∙ either_row m c.args.alternates c.args.index)

pub returns-in-None-clause-answer : goal.returns-in-None-clause-answer
returns-in-None-clause-answer c =
    let m = c.args.self.now in
    let o = cond c.args.alternates (op.Alt c.args.index) (op.Send c.args.index) in
    let none = waits_stop m o c.requires.there (either_stops c.args.alternates c.args.index) ∙ sym c.waiting.ensures.value ∙ c.in-None.is in
    to_answer m o c.requires.there c.send.new.self c.send.result none (returns-in-None-clause-value c) (c.send.ensures.answer ∙ either_answer c.args.alternates c.args.index c.send.new.self.point.state.talks)

pub returns-in-None-clause-soon : goal.returns-in-None-clause-soon
returns-in-None-clause-soon c =
    let m = c.args.self.now in
    let o = cond c.args.alternates (op.Alt c.args.index) (op.Send c.args.index) in
    let none = waits_stop m o c.requires.there (either_stops c.args.alternates c.args.index) ∙ sym c.waiting.ensures.value ∙ c.in-None.is in
    omega (arith, c.send.ensures.soon, ticks m o c.requires.there none, either_ticks c.args.alternates c.args.index, ap clock_in c.waiting.ensures.same)
