use Rattle.std.proofs.Common.{◌≡◌, ◌<◌, None, Some, length, sym, ap, subst, refl, ◌∙◌, arith, rules}
use Rattle.std.specs.Prelude.{slice_get}
use Rattle.mil_line.specs.Plans.{faults_of}
use Rattle.mil_bus.specs.Exchange.{exchanged, talk_of}
use Rattle.frame_code.specs.Table.{sends}
use Rattle.bc_machine.specs.Agendas.{AgendaState}
use Rattle.bc_machine.specs.Controller.{outcome_in}
use Rattle.bc_machine.specs.Hosting.{next_insertion}
use Rattle.bc_machine.specs.MadeMessages.{own}
use Rattle.bc_machine.specs.Moves.{line_of}
use Rattle.bc_machine.specs.PlainMachine.{state_in}
use Rattle.bc_machine.specs.Running.{MachineState, world_in, frames_point, most_inserted, moved_by, clock_in}
use Rattle.bc_machine.proofs.Queued.{more_made}
use Rattle.bc_machine.proofs.Sent.{sent_is, answer_is, latest_talk, there_is}
use Rattle.bc_machine.proofs.parts.Parts.send.Goals as goal

pub exchange-came-requires-clause-clock : goal.exchange-came-requires-clause-clock
exchange-came-requires-clause-clock c = omega (arith, c.send-sourced.ensures.clock, c.requires.clock, ap clock_in c.self.view_is)

pub returns-clause-value : goal.returns-clause-value
returns-clause-value c =
    let m = state_in c.self.inside in
    let x = c.index-messages-index.result in
    let there : slice_get m.code.messages c.args.index ≡ Some x = there_is m.code.messages c.messages.result.now c.args.index x (search rules) c.index-messages-index.is (subst (λ (z : MachineState). c.args.index < length z.code.messages) (sym c.self.view_is) c.requires.message) in
    let none : next_insertion m.placed (most_inserted m.code) m.made ≡ None = subst (λ (z : MachineState). next_insertion z.placed (most_inserted z.code) z.made ≡ None) (sym c.self.view_is) c.requires.none in
    let number = c.number-number.ensures ∙ ap (λ (a : AgendaState). length a.made) c.send-sourced.ensures.agenda ∙ more_made m.made (own x.1) in
    let faults = c.as_slice.ensures.value ∙ c.faults-faults.ensures.faults ∙ ap (λ k. faults_of k m.plan) number in
    let met = c.send-sourced.new.bus in
    let line = c.line_for-line.result in
    let form = c.sent_as-sent.result.now in
    rw c.note_sent.ensures (sent_is m refl c.args.index x (line_of c.args.alternates m.at.line) line form c.send-sourced.new.self met c.exchange-came.new.bus c.exchange-came.result.1
    there c.line_for-line.ensures none c.send-sourced.ensures.agenda c.send-sourced.ensures.bus (c.sent_as-sent.ensures ∙ c.send-sourced.ensures.message)
    (c.exchange-came.ensures.bus ∙ ap (λ fs. exchanged met line form m.point.gap fs) faults)
    (c.exchange-came.ensures.outcome ∙ ap (λ fs. outcome_in (talk_of met line form m.point.gap fs)) faults)
    ∙ ap (λ (z : MachineState). moved_by (sends (world_in z) (slice_get z.code.messages c.args.index) (line_of c.args.alternates z.at.line) z.at (frames_point z)) z) c.self.view_is)

pub returns-clause-answer : goal.returns-clause-answer
returns-clause-answer c = answer_is c.exchange-came.new.bus _ _ c.exchange-came.result.0 (latest_talk _ _ _ _ _ _ c.exchange-came.ensures.bus) c.exchange-came.ensures.answer

pub returns-clause-soon : goal.returns-clause-soon
returns-clause-soon c = omega (arith, c.exchange-came.ensures.soon, c.send-sourced.ensures.clock, ap clock_in c.self.view_is)
