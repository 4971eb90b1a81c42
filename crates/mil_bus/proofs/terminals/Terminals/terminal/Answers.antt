use Rattle.std.proofs.Common.{◌≡◌, arith, sym, ap, ◌∙◌, Some}
use Rattle.mil_bus.specs.Actions.{place_of, station_of}
use Rattle.mil_bus.proofs.Places.{within, station-some, station-none}
use Rattle.mil_bus.proofs.terminals.Terminals.terminal.Goals as goal

pub index-requires : goal.index-requires
index-requires c = omega (arith, within c.args.address c.self.inside.list.items c.in-Some.place (ap (place_of c.args.address) c.self.view_is ∙ sym c.in-Some.ensures))

pub returns-in-Some : goal.returns-in-Some
returns-in-Some c =
    let found : place_of c.args.address c.self.inside.list.items ≡ Some c.in-Some.place = ap (place_of c.args.address) c.self.view_is ∙ sym c.in-Some.ensures in
    ap (λ s. Some s) c.index.ensures ∙ sym (station-some c.args.address c.self.inside.list.items c.in-Some.place c.index.result.now found) ∙ ap (station_of c.args.address) c.self.view_is

pub returns-in-None : goal.returns-in-None
returns-in-None c = sym (station-none c.args.address c.args.self.now (sym c.in-None.ensures))
