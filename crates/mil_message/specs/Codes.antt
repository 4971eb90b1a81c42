-- The letters of a draft's faults (own choice).
use Rattle.std.specs.Prelude.{ℕ, List, codes}
use Rattle.mil_message.specs.declared.faults.BadMessage.{BadMessage}
use Rattle.mil_message.specs.declared.faults.BadMessage.TheVariants.{Address, Subaddress, CountOrCode, SameEnds}
use Rattle.mil_message.specs.declared.faults.BadMessage.TheVariants.{ModeWord}

abbrev pub fault_code : BadMessage → List ℕ
fault_code Address = codes "M1"
fault_code Subaddress = codes "M2"
fault_code CountOrCode = codes "M3"
fault_code SameEnds = codes "M4"
fault_code ModeWord = codes "M5"
