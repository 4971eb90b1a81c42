-- The text of a job's fault (own choice): letters, the line, and the letters of what is behind it. A fault of the
-- script has its place and its cause, of which nothing is said here.
use Rattle.std.specs.Prelude.{ℕ, ◌++◌, Option, Some, None, codes, decimal}
use Rattle.text_lines.specs.Words.{Text}
use Rattle.mil_host.specs.Printing as action
use Rattle.mil_line.specs.Codes as plan
use Rattle.frame_asm.specs.Codes as assembler
use Rattle.frame_load.specs.Codes as loader
use Rattle.job_file.specs.declared.error.LineFault.{LineFault}
use Rattle.job_file.specs.declared.error.LineFault.TheVariants as fault
use Rattle.job_file.specs.declared.error.JobError.{JobError}
use Rattle.job_file.specs.declared.error.JobError.TheVariants as error

abbrev pub line_fault_text : ℕ → LineFault → Text
line_fault_text line fault.Word = codes "J1 line " ++ decimal line
line_fault_text line fault.Number = codes "J2 line " ++ decimal line
line_fault_text line fault.Order = codes "J3 line " ++ decimal line
line_fault_text line fault.Terminal = codes "J4 line " ++ decimal line
line_fault_text line (fault.Action bad) = codes "J5 line " ++ decimal line ++ codes " " ++ action.fault_code bad
line_fault_text line (fault.Fault bad) = codes "J6 line " ++ decimal line ++ codes " " ++ plan.fault_code bad

abbrev pub fault_text : JobError → Option Text
fault_text (error.Line line why) = Some (line_fault_text line why)
fault_text (error.Script cause place) = None
fault_text (error.Assembly line why) = Some (codes "J7 line " ++ decimal line ++ codes " " ++ assembler.fault_code why)
fault_text (error.Loading line why) = Some (codes "J7 line " ++ decimal line ++ codes " " ++ loader.fault_code why)
fault_text (error.Inserts line) = Some (codes "J9 line " ++ decimal line)
fault_text error.Memory = Some (codes "J8")
