use Rattle.std.proofs.Common.{◌≡◌, ap, ◌∙◌, arith}
use Rattle.mil_bus.specs.Addresses.{stations_of, stations_below}
use Rattle.mil_bus.proofs.Indexing.{index-none, index-whole}
use Rattle.mil_bus.proofs.addresses.fresh.Goals as goal

pub loop-own-init : goal.loop-own-init
loop-own-init c = record { stations = c.new-terminals.ensures.items; index = rw c.new-terminals.ensures.items (index-none c.args.places.now c.told-places) }

pub returns-clause-stations : goal.returns-clause-stations
unfolding stations_of
returns-clause-stations c =
    let e : c.loop-own.own ≡ 31 = omega arith in
    c.loop-own.invariant.stations ∙ ap (λ n. stations_below n c.args.addresses.now) e

pub returns-clause-index : goal.returns-clause-index
returns-clause-index c = index-whole c.loop-own.places c.loop-own.terminals.items c.loop-own.own (omega arith) c.loop-own.invariant.index
