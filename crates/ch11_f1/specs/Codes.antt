-- The letters of a body's faults (own choice).
use Rattle.std.specs.Prelude.{ℕ, List, codes}
use Rattle.ch11_f1.specs.declared.error.BodyError.{BodyError}
use Rattle.ch11_f1.specs.declared.error.BodyError.TheVariants.{Short, Odd, End}

abbrev pub fault_code : BodyError → List ℕ
fault_code Short = codes "F1"
fault_code Odd = codes "F2"
fault_code End = codes "F3"
