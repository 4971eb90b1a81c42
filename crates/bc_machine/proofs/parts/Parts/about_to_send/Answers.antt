use Rattle.std.proofs.Common.{◌≡◌, ℕ, ◌+◌, ◌<◌, ◌^◌, Option, List, length, sym, ap, ap₂, subst, ◌∙◌, arith}
use Rattle.std.specs.Prelude.{IfOk}
use Rattle.mil_line.specs.Plans.{faults_of}
use Rattle.mil_bus.specs.Exchange.{BusState, talk_of, now_of}
use Rattle.bc_machine.specs.declared.placed.Placed.{Placed}
use Rattle.bc_machine.specs.Coming.{held_by}
use Rattle.bc_machine.specs.Controller.{ready, next_bus}
use Rattle.bc_machine.specs.PlainMachine.{state_in}
use Rattle.bc_machine.specs.Running.{MachineState, setting, bus_run, clock_in}
use Rattle.bc_machine.proofs.Coming.{held_soon}
use Rattle.bc_machine.proofs.parts.Parts.about_to_send.Goals as goal

-- the bus that was copied, behind the actions placed at the message, and held
held_is : (m : MachineState) (number : ℕ) (tick : Option ℕ) (copied acted held : BusState) (placed : List Placed) → copied ≡ m.point.state → number ≡ length m.made + 1 → m.placed ≡ placed → acted ≡ ready placed number copied
    → held ≡ held_by tick acted → held ≡ held_by tick (next_bus (setting m) (bus_run m))
held_is m number tick copied acted held placed same at all acts is =
    is ∙ ap (held_by tick) (acts ∙ ap₂ (λ (k : ℕ) (b : BusState). ready placed k b) at same ∙ ap (λ (ps : List Placed). ready ps (length m.made + 1) m.point.state) (sym all))

pub prepared-requires-clause-clock : goal.prepared-requires-clause-clock
prepared-requires-clause-clock c =
    subst (λ (b : BusState). now_of b < 2 ^ 60) (sym c.wait_for.ensures)
    (held_soon c.args.tick c.act_both.new.bus c.requires.tick (omega (arith, c.act_both.ensures.clock, ap now_of c.in_ok-bus.ensures, c.requires.clock, ap clock_in c.self.view_is)))

pub returns-clause-bus : goal.returns-clause-bus
returns-clause-bus c =
    let m = state_in c.self.inside in
    let number : c.number-number.result + 1 ≡ length m.made + 1 = ap (λ (k : ℕ). k + 1) c.number-number.ensures in
    let held = held_is m (c.number-number.result + 1) c.args.tick c.in_ok-bus.bus c.act_both.new.bus c.wait_for.new.bus _ c.in_ok-bus.ensures number c.schedules.ensures c.act_both.ensures.bus c.wait_for.ensures
    ∙ ap (λ (z : MachineState). held_by c.args.tick (next_bus (setting z) (bus_run z))) c.self.view_is in
    subst (λ (b : BusState). IfOk c.prepared.result (λ u. u.bus ≡ b)) held c.prepared.ensures.bus

pub returns-clause-talk : goal.returns-clause-talk
returns-clause-talk c =
    let m = state_in c.self.inside in
    let number : c.number-number.result + 1 ≡ length m.made + 1 = ap (λ (k : ℕ). k + 1) c.number-number.ensures in
    let held = held_is m (c.number-number.result + 1) c.args.tick c.in_ok-bus.bus c.act_both.new.bus c.wait_for.new.bus _ c.in_ok-bus.ensures number c.schedules.ensures c.act_both.ensures.bus c.wait_for.ensures in
    let faults = c.as_slice.ensures.value ∙ c.faults-faults.ensures.faults ∙ ap (λ k. faults_of k m.plan) number in
    subst (λ (z : MachineState). IfOk c.prepared.result (λ u. u.talk ≡ talk_of (held_by c.args.tick (next_bus (setting z) (bus_run z))) c.args.line c.args.message.now z.point.gap (faults_of (length z.made + 1) z.plan))) c.self.view_is
    (subst (λ (b : BusState). IfOk c.prepared.result (λ u. u.talk ≡ talk_of b c.args.line c.args.message.now m.point.gap (faults_of (length m.made + 1) m.plan))) held
    (subst (λ fs. IfOk c.prepared.result (λ u. u.talk ≡ talk_of c.wait_for.new.bus c.args.line c.args.message.now m.point.gap fs)) faults c.prepared.ensures.talk))

pub returns-clause-inserted : goal.returns-clause-inserted
returns-clause-inserted c = subst (λ b. IfOk c.prepared.result (λ u. u.inserted ≡ b)) c.is_some-inserted.ensures c.prepared.ensures.inserted

pub returns-clause-gap : goal.returns-clause-gap
returns-clause-gap c = subst (λ (z : MachineState). IfOk c.prepared.result (λ u. u.gap ≡ z.point.gap)) c.self.view_is c.prepared.ensures.gap
