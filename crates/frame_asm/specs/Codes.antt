-- The letters of the assembler's refusals (own choice).
use Rattle.std.specs.Prelude.{ℕ, List, codes}
use Rattle.frame_asm.specs.declared.error.AsmError.{AsmError}
use Rattle.frame_asm.specs.declared.error.AsmError.TheVariants.{Operations, Messages, Memory}

abbrev pub fault_code : AsmError → List ℕ
fault_code Operations = codes "A1"
fault_code Messages = codes "A2"
fault_code Memory = codes "A3"
