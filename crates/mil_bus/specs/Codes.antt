-- The letters of a bus's refusals (own choice).
use Rattle.std.specs.Prelude.{ℕ, List, codes}
use Rattle.mil_bus.specs.declared.error.BusError.{BusError}
use Rattle.mil_bus.specs.declared.error.BusError.TheVariants.{Addresses, Memory}

abbrev pub fault_code : BusError → List ℕ
fault_code Addresses = codes "B1"
fault_code Memory = codes "B2"
