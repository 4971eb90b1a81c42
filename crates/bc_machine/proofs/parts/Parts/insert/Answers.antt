use Rattle.std.proofs.Common.{◌≡◌, ◌+◌, ℕ, Some, length, sym, ap, ap₂, subst, refl, ◌∙◌, arith}
use Rattle.mil_word.specs.declared.Line.{Line}
use Rattle.mil_message.specs.declared.forms.Form.{Form}
use Rattle.mil_line.specs.Plans.{faults_of}
use Rattle.mil_monitor.specs.Observed.{observed}
use Rattle.mil_bus.specs.Exchange.{BusState, exchanged, talk_of, held_until, now_of}
use Rattle.controller_host.specs.Values.{latest_tick}
use Rattle.bc_machine.specs.declared.Stepped.TheVariants.{Inserted}
use Rattle.bc_machine.specs.Agendas.{AgendaState}
use Rattle.bc_machine.specs.Controller.{outcome_in, insertion_talk}
use Rattle.bc_machine.specs.Hosting.{next_insertion}
use Rattle.bc_machine.specs.MadeMessages.{inserted}
use Rattle.bc_machine.specs.PlainMachine.{state_in}
use Rattle.bc_machine.specs.Running.{MachineState, setting, bus_run, most_inserted, with_inserted, clock_in}
use Rattle.bc_machine.proofs.Acts.{ready_least}
use Rattle.bc_machine.proofs.Queued.{more_made, next_waits}
use Rattle.bc_machine.proofs.Sent.{inserted_is, inserted_soon}
use Rattle.bc_machine.proofs.parts.Parts.insert.Goals as goal

pub insert-requires-clause-waits : goal.insert-requires-clause-waits
insert-requires-clause-waits c =
    let m = state_in c.self.inside in
    next_waits (most_inserted m.code) m.placed m.made c.args.insertion.now
    (subst (λ (z : MachineState). next_insertion z.placed (most_inserted z.code) z.made ≡ Some c.args.insertion.now) (sym c.self.view_is) c.requires.next)

pub exchange-came-requires-clause-clock : goal.exchange-came-requires-clause-clock
exchange-came-requires-clause-clock c =
    omega (arith, ap now_of c.hold-least_start.ensures.bus, c.tick.ensures.value, c.tick.ensures.range, c.insert.ensures.clock, c.requires.clock, ap clock_in c.self.view_is)

pub returns-clause-value : goal.returns-clause-value
returns-clause-value c =
    let m = state_in c.self.inside in
    let x = c.args.insertion.now in
    let number = c.number.ensures ∙ ap (λ (a : AgendaState). length a.made) c.insert.ensures.agenda ∙ more_made m.made inserted in
    let faults = c.as_slice.ensures.value ∙ c.faults-faults.ensures.faults ∙ ap (λ k. faults_of k m.plan) number in
    let met = c.hold-least_start.new.self in
    let met_is = c.hold-least_start.ensures.bus ∙ ap₂ (λ (t : ℕ) (b : BusState). held_until t b) c.tick.ensures.value c.insert.ensures.bus in
    let least : c.hold-least_start.result ≡ m.point.state.least_start = c.hold-least_start.ensures.before ∙ ap (λ (b : BusState). b.least_start) c.insert.ensures.bus ∙ ready_least m.placed (length m.made + 1) m.point.state in
    inserted_is m refl x c.insert.new.self met c.exchange-came.new.bus c.hold.new.self c.exchange-came.result.1
    c.insert.ensures.agenda met_is
    (c.exchange-came.ensures.bus ∙ ap (λ fs. exchanged met c.line.result c.message.result.now m.point.gap fs) faults ∙ ap₂ (λ (l : Line) (f : Form). exchanged met l f m.point.gap (faults_of (length m.made + 1) m.plan)) c.line.ensures c.message.ensures.value)
    (c.hold.ensures.bus ∙ ap (λ t. held_until t c.exchange-came.new.bus) least)
    (c.exchange-came.ensures.outcome ∙ ap (λ fs. outcome_in (talk_of met c.line.result c.message.result.now m.point.gap fs)) faults ∙ ap₂ (λ (l : Line) (f : Form). outcome_in (talk_of met l f m.point.gap (faults_of (length m.made + 1) m.plan))) c.line.ensures c.message.ensures.value)
    ∙ ap (λ (z : MachineState). with_inserted z x) c.self.view_is

pub returns-clause-answer : goal.returns-clause-answer
returns-clause-answer c =
    let m = state_in c.self.inside in
    let x = c.args.insertion.now in
    let number = c.number.ensures ∙ ap (λ (a : AgendaState). length a.made) c.insert.ensures.agenda ∙ more_made m.made inserted in
    let faults = c.as_slice.ensures.value ∙ c.faults-faults.ensures.faults ∙ ap (λ k. faults_of k m.plan) number in
    let met = c.hold-least_start.new.self in
    let met_is = c.hold-least_start.ensures.bus ∙ ap₂ (λ (t : ℕ) (b : BusState). held_until t b) c.tick.ensures.value c.insert.ensures.bus in
    ap Inserted
    (c.exchange-came.ensures.answer
    ∙ ap (λ fs. observed (talk_of met c.line.result c.message.result.now m.point.gap fs)) faults
    ∙ ap₂ (λ (l : Line) (f : Form). observed (talk_of met l f m.point.gap (faults_of (length m.made + 1) m.plan))) c.line.ensures c.message.ensures.value
    ∙ ap (λ (b : BusState). observed (talk_of b x.line x.message m.point.gap (faults_of (length m.made + 1) m.plan))) met_is
    ∙ ap (λ (z : MachineState). observed (insertion_talk (setting z) z.point.gap x (bus_run z))) c.self.view_is)

pub returns-clause-soon : goal.returns-clause-soon
returns-clause-soon c =
    let m = state_in c.self.inside in
    let least = c.hold-least_start.ensures.before ∙ ap (λ (b : BusState). b.least_start) c.insert.ensures.bus ∙ ready_least m.placed (length m.made + 1) m.point.state in
    let soon = inserted_soon c.args.insertion.now.tick latest_tick m c.insert.new.bus c.hold-least_start.new.self c.exchange-came.new.bus c.hold.new.self
    (omega (arith, c.tick.ensures.value, c.tick.ensures.range)) c.insert.ensures.bus (c.hold-least_start.ensures.bus ∙ ap (λ t. held_until t c.insert.new.bus) c.tick.ensures.value) c.exchange-came.ensures.soon
    (c.hold.ensures.bus ∙ ap (λ t. held_until t c.exchange-came.new.bus) least) in
    omega (arith, soon, ap clock_in c.self.view_is)
