use Rattle.std.proofs.Common.{◌≡◌, sym, ap, ◌∙◌, arith, Some}
use Rattle.mil_terminal.specs.declared.events.Event.TheVariants.{Host}
use Rattle.mil_terminal.specs.Station.{after}
use Rattle.mil_bus.specs.Actions.{place_of, acting}
use Rattle.mil_bus.proofs.Places.{within, acting-none, acting-some}
use Rattle.mil_bus.proofs.terminals.Terminals.act.Goals as goal

pub index_mut-terminal-requires : goal.index_mut-terminal-requires
index_mut-terminal-requires c = omega (arith, within c.args.address c.self.inside.list.items c.in-Some.place (ap (place_of c.args.address) c.self.view_is ∙ sym c.in-Some.ensures))

pub returns-in-None-clause-after : goal.returns-in-None-clause-after
returns-in-None-clause-after c = sym (acting-none c.args.address c.args.action.now c.args.self.now (sym c.in-None.ensures))

pub with_bit-self-inside-requires : goal.with_bit-self-inside-requires
with_bit-self-inside-requires c =
    omega (arith, within c.args.address c.self.inside.list.items c.in-Some.place (ap (place_of c.args.address) c.self.view_is ∙ sym c.in-Some.ensures), c.self.invariant.0.few)

pub returns-in-Some-clause-after : goal.returns-in-Some-clause-after
returns-in-Some-clause-after c =
    let found : place_of c.args.address c.self.inside.list.items ≡ Some c.in-Some.place = ap (place_of c.args.address) c.self.view_is ∙ sym c.in-Some.ensures in
    let z = c.index_mut-terminal.result.now in
    sym (acting-some c.args.address c.args.action.now c.self.inside.list.items c.in-Some.place z c.act.new.self found (c.act.ensures ∙ ap (λ s. after s (Host c.args.action.now)) c.index_mut-terminal.ensures.value))
    ∙ ap (acting c.args.address c.args.action.now) c.self.view_is
