use Rattle.std.proofs.Common.{◌≡◌, ◌+◌, drop, length}
use Rattle.std.specs.Option.{option_map}
use Rattle.mil_bus.specs.Actions.{place_of}
use Rattle.mil_bus.proofs.terminals.Terminals.place.Given as goal

abbrev pub invariant-loop-i : goal.invariant-loop-i
invariant-loop-i l = record {
  place : option_map (λ k. l.i + k) (place_of l.address (drop l.i l.self-inside.list.items)) ≡ place_of l.address l.self-inside.list.items;
  end : l.i-end ≡ length l.self-inside.list.items;
}
