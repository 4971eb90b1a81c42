use Rattle.std.proofs.Common.{◌+◌, ◌∙◌, cond, length, subst, arith}
use Rattle.frame_code.specs.declared.Op.TheVariants as op
use Rattle.bc_machine.specs.Running.{most_inserted}
use Rattle.bc_machine.specs.Schedules.{MayControl}
use Rattle.bc_machine.proofs.Queued.{next_none, none_asked}
use Rattle.bc_machine.proofs.Rows.{waits_stop, to_row, to_answer, ticks}
use Rattle.bc_machine.proofs.Sent.{either_stops, either_row, either_answer, either_ticks, message_there}
use Rattle.bc_machine.proofs.parts.Parts.send_next.Goals as goal

pub send_as_is-requires-clause-message : goal.send_as_is-requires-clause-message
send_as_is-requires-clause-message c = message_there c.args.self.now c.args.alternates c.args.index c.requires.there c.requires.able.going

pub send_as_is-requires-clause-free : goal.send_as_is-requires-clause-free
send_as_is-requires-clause-free c = subst (λ b. MayControl b c.args.self.now.placed) c.if-has_controls.false c.has_controls.ensures

pub returns-clause-value : goal.returns-clause-value
returns-clause-value c =
    let m = c.args.self.now in
    let o = cond c.args.alternates (op.Alt c.args.index) (op.Send c.args.index) in
    let free = subst (λ b. MayControl b m.placed) c.if-has_controls.false c.has_controls.ensures in
    let none = waits_stop m o c.requires.there (either_stops c.args.alternates c.args.index) ∙ next_none (most_inserted m.code) m.placed m.made (none_asked (length m.made + 1) m.placed m.made free) in
    to_row m o c.requires.there c.send_as_is.new.self none (c.send_as_is.ensures.value ∙ either_row m c.args.alternates c.args.index)

pub returns-clause-answer : goal.returns-clause-answer
returns-clause-answer c =
    let m = c.args.self.now in
    let o = cond c.args.alternates (op.Alt c.args.index) (op.Send c.args.index) in
    let free = subst (λ b. MayControl b m.placed) c.if-has_controls.false c.has_controls.ensures in
    let none = waits_stop m o c.requires.there (either_stops c.args.alternates c.args.index) ∙ next_none (most_inserted m.code) m.placed m.made (none_asked (length m.made + 1) m.placed m.made free) in
    to_answer m o c.requires.there c.send_as_is.new.self c.send_as_is.result none (returns-clause-value c) (c.send_as_is.ensures.answer ∙ either_answer c.args.alternates c.args.index c.send_as_is.new.self.point.state.talks)

pub returns-clause-soon : goal.returns-clause-soon
returns-clause-soon c =
    let m = c.args.self.now in
    let o = cond c.args.alternates (op.Alt c.args.index) (op.Send c.args.index) in
    let free = subst (λ b. MayControl b m.placed) c.if-has_controls.false c.has_controls.ensures in
    let none = waits_stop m o c.requires.there (either_stops c.args.alternates c.args.index) ∙ next_none (most_inserted m.code) m.placed m.made (none_asked (length m.made + 1) m.placed m.made free) in
    omega (arith, c.send_as_is.ensures.soon, ticks m o c.requires.there none, either_ticks c.args.alternates c.args.index)
