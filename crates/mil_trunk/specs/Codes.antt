-- The letters of a trunk's refusals (own choice).
use Rattle.std.specs.Prelude.{ℕ, List, codes}
use Rattle.mil_trunk.specs.declared.error.TrunkError.{TrunkError}
use Rattle.mil_trunk.specs.declared.error.TrunkError.TheVariants.{Capacity, Memory}

abbrev pub fault_code : TrunkError → List ℕ
fault_code Capacity = codes "Q1"
fault_code Memory = codes "Q2"
