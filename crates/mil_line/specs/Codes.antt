-- The letters of a plan's refusals (own choice).
use Rattle.std.specs.Prelude.{ℕ, List, codes}
use Rattle.mil_line.specs.declared.error.LineError.{LineError}
use Rattle.mil_line.specs.declared.error.LineError.TheVariants.{TooMany, OutOfRange, Memory}

abbrev pub fault_code : LineError → List ℕ
fault_code TooMany = codes "L1"
fault_code OutOfRange = codes "L2"
fault_code Memory = codes "L3"
