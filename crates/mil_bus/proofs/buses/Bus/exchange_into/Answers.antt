use Rattle.std.proofs.Common.{◌≡◌, ap, ◌∙◌, arith}
use Rattle.mil_bus.specs.declared.talks.Talk.{Talk}
use Rattle.mil_bus.specs.Exchange.{BusState, Standing}
use Rattle.mil_bus.specs.Wholes.{value_waves}
use Rattle.mil_bus.proofs.Whole.{exchange_is, talk_is, bench_is}
use Rattle.mil_bus.proofs.buses.Bus.exchange_into.Goals as goal

pub returns-clause-talk : goal.returns-clause-talk
returns-clause-talk c =
    let e = exchange_is c.args.self.now c.args.line c.args.message.now c.args.gap c.args.faults.now c.talk_start-start.result c.gap_on.result (value_waves c.values.result.commands c.values.result.words.items) c.clear.new.self.items c.self.inside.terminals _ c.talk_start-start.ensures.value c.gap_on.ensures c.values.ensures.waves c.clear.ensures (ap (λ (b : BusState). b.stations) c.self.view_is) c.all_runs.ensures in
    let copied : (let t : Talk = record { start = c.talk_start-start.result; line = c.args.line; message = c.copy_into.new.other; sent = c.all_runs.new.sent } in t) ≡ record { start = c.talk_start-start.result; line = c.args.line; message = c.args.message.now; sent = c.all_runs.new.sent } =
    ap (λ m. let t : Talk = record { start = c.talk_start-start.result; line = c.args.line; message = m; sent = c.all_runs.new.sent } in t) c.copy_into.ensures in
    copied ∙ talk_is c.args.self.now c.args.line c.args.message.now c.args.gap c.args.faults.now c.talk_start-start.result c.all_runs.new.sent c.talk_start-start.ensures.value (ap (λ (s : Standing). s.sent) e)

pub returns-clause-bus : goal.returns-clause-bus
returns-clause-bus c =
    let e = exchange_is c.args.self.now c.args.line c.args.message.now c.args.gap c.args.faults.now c.talk_start-start.result c.gap_on.result (value_waves c.values.result.commands c.values.result.words.items) c.clear.new.self.items c.self.inside.terminals _ c.talk_start-start.ensures.value c.gap_on.ensures c.values.ensures.waves c.clear.ensures (ap (λ (b : BusState). b.stations) c.self.view_is) c.all_runs.ensures in
    c.note.ensures.value ∙ bench_is c.args.self.now c.args.line c.args.message.now c.args.gap c.args.faults.now _ _ _ _ _ (ap (λ (b : BusState). b.start) c.self.view_is) (ap (λ (b : BusState). b.least_start) c.self.view_is) (returns-clause-talk c) (ap (λ (b : BusState). b.talks) c.self.view_is) (ap (λ (s : Standing). s.stations) e)

pub returns-clause-soon : goal.returns-clause-soon
returns-clause-soon c =
    let least : c.note.new.self.least_start ≡ c.args.self.now.least_start = c.note.ensures.least ∙ ap (λ (b : BusState). b.least_start) c.self.view_is in
    omega (arith, c.note.ensures.soon, c.talk_start-start.ensures.soon, c.talk_start-start.ensures.after)

pub returns-clause-later : goal.returns-clause-later
returns-clause-later c = omega (arith, c.note.ensures.later, c.talk_start-start.ensures.after)
