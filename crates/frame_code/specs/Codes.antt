-- The letters of the faults of an image (own choice).
use Rattle.std.specs.Prelude.{ℕ, List, codes}
use Rattle.frame_code.specs.declared.error.ImageError.{ImageError}
use Rattle.frame_code.specs.declared.error.ImageError.TheVariants.{Mark, Length, Operations, Messages, Version, Memory}

abbrev pub fault_code : ImageError → List ℕ
fault_code Mark = codes "C1"
fault_code Length = codes "C2"
fault_code Operations = codes "C3"
fault_code Messages = codes "C4"
fault_code Version = codes "C6"
fault_code Memory = codes "C5"
