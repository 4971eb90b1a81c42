-- The letters of a builder's faults (own choice).
use Rattle.std.specs.Prelude.{ℕ, List, codes}
use Rattle.ch11_builder.specs.declared.error.BuilderError.{BuilderError}
use Rattle.ch11_builder.specs.declared.error.BuilderError.TheVariants.{Limit, Memory}

abbrev pub fault_code : BuilderError → List ℕ
fault_code Limit = codes "G1"
fault_code Memory = codes "G2"
