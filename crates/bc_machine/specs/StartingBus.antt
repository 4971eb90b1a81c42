-- The bus that a controller began with, and how many links of the chain that keeps it the last one follows.
use Rattle.std.specs.Prelude.{ℕ, ◌+◌}
use Rattle.mil_bus.specs.Exchange.{BusState}
use Rattle.bc_machine.specs.declared.begun.Link.{Link}
use Rattle.bc_machine.specs.declared.begun.Link.TheVariants.{Start, Same}

abbrev pub bus_in : Link → BusState × ℕ
bus_in (Start bus) = (bus.value, 0)
bus_in (Same past) = (past.value.value.0, past.value.value.1 + 1)
