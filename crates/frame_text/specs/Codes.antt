-- The letters of faults, with their places (own choice).
use Rattle.std.specs.Prelude.{ℕ, List, ◌++◌, codes, decimal}
use Rattle.mil_message.specs.Codes as messages
use Rattle.frame_text.specs.declared.faults.Cause.{Cause}
use Rattle.frame_text.specs.declared.faults.Cause.TheVariants as cause
use Rattle.frame_text.specs.declared.faults.Place.{Place}
use Rattle.frame_text.specs.declared.faults.ScriptError.{ScriptError}
use Rattle.frame_text.specs.declared.faults.ScriptError.TheVariants as error

abbrev pub fault_code : Cause → List ℕ
fault_code cause.Byte = codes "S1"
fault_code cause.Token = codes "S2"
fault_code cause.Number = codes "S3"
fault_code (cause.Message bad) = codes "S4"
fault_code cause.End = codes "S5"
fault_code cause.Depth = codes "S6"
fault_code cause.Range = codes "S7"
fault_code cause.Messages = codes "S8"
fault_code cause.Name = codes "S10"
fault_code cause.Definitions = codes "S11"

-- of a message that is refused, which of its rules it breaks as well
abbrev pub cause_text : Cause → List ℕ
cause_text (cause.Message bad) = codes "S4 " ++ messages.fault_code bad
cause_text c = fault_code c

abbrev pub place_text : Place → List ℕ
place_text p = codes "line " ++ (decimal p.line ++ (codes " column " ++ decimal p.column))

abbrev pub error_text : ScriptError → List ℕ
error_text (error.Text (cause.Message bad) place) =
    codes "S4 " ++ (place_text place ++ (codes " " ++ messages.fault_code bad))
error_text (error.Text c place) = fault_code c ++ (codes " " ++ place_text place)
error_text (error.Memory place) = codes "memory"
