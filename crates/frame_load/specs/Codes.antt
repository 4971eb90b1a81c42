-- The letters of the loader's refusals (own choice).
use Rattle.std.specs.Prelude.{ℕ, List, codes}
use Rattle.frame_load.specs.declared.error.LoadError.{LoadError}
use Rattle.frame_load.specs.declared.error.LoadError.TheVariants.{End, Routines, Nesting, Jumps, Messages, Budget}
use Rattle.frame_load.specs.declared.error.LoadError.TheVariants.{Memory}
use Rattle.frame_load.specs.declared.error.LoadError.TheVariants.{Periods}

abbrev pub fault_code : LoadError → List ℕ
fault_code Jumps = codes "P1"
fault_code Nesting = codes "P2"
fault_code Messages = codes "P3"
fault_code End = codes "P4"
fault_code Budget = codes "P5"
fault_code Memory = codes "P6"
fault_code Routines = codes "P7"
fault_code Periods = codes "P8"
