-- What the reading of a job answers.
use Rattle.std.specs.Prelude.{◌≡◌, ℕ, ◌+◌, ◌<◌, ◌≤◌, true, false, Bool, List, length}
use Rattle.std.specs.Prelude.{Option, Some, None, Result, Ok, Err}
use Rattle.frame_tree.specs.Tree.{Tree}
use Rattle.frame_text.specs.declared.faults.Cause.{Cause}
use Rattle.frame_code.specs.Table.{Code}
use Rattle.frame_asm.specs.Shapes.{code_of_tree}
use Rattle.frame_asm.specs.declared.error.AsmError.{AsmError}
use Rattle.frame_asm.specs.declared.error.AsmError.TheVariants as assembler
use Rattle.frame_load.specs.Budget.{worst_messages}
use Rattle.frame_load.specs.Judging.{IsWithin, HasShortPeriods}
use Rattle.bc_machine.specs.declared.placed.Placed.{Placed}
use Rattle.job_file.specs.Jobs.{own_inserts}
use Rattle.job_file.specs.TimedLines.{timed_inserts}
use Rattle.job_file.specs.declared.timed.TimedAction.{TimedAction}
use Rattle.frame_load.specs.declared.error.LoadError.{LoadError}
use Rattle.frame_load.specs.declared.error.LoadError.TheVariants as loader
use Rattle.job_file.specs.Lines.{Said}
use Rattle.job_file.specs.Entries.{IsInRange}
use Rattle.job_file.specs.HeadLines.{Head, may_stand}
use Rattle.job_file.specs.Drafts.{with_line}
use Rattle.job_file.specs.Spelled.{Written, is_script}
use Rattle.job_file.specs.declared.error.Refusal.{Refusal}
use Rattle.job_file.specs.declared.error.Refusal.TheVariants as refusal
use Rattle.job_file.specs.declared.error.JobError.{JobError}
use Rattle.job_file.specs.declared.error.JobError.TheVariants as error
use Rattle.job_file.specs.declared.drafts.Taken.{Taken}
use Rattle.job_file.specs.declared.drafts.Taken.TheVariants as taken

abbrev pub stands : Option Said → Head → Bool
stands None above = false
stands (Some line) above = may_stand line above

abbrev pub with_said : Option Said → Head → Head
with_said None head = head
with_said (Some line) head = with_line line head

-- the line of the script, another line that may stand there, or one that may not; want of memory says nothing
abbrev pub TakesLine : Option Said → Head → Head → Result Taken Refusal → Type 0
TakesLine line old new (Ok taken.Script) = (is_script line ≡ true) × (new ≡ old)
TakesLine line old new (Ok taken.Line) = (is_script line ≡ false) × (stands line old ≡ true)
    × (new ≡ with_said line old)
TakesLine line old new (Err refusal.Memory) = Unit {0}
TakesLine line old new (Err (refusal.Line why)) = (is_script line ≡ false) × (stands line old ≡ false)

-- what a line says is in its ranges
abbrev pub IsLineInRange : Option Said → Type 0
IsLineInRange None = Unit {0}
IsLineInRange (Some line) = IsInRange line

-- what a script comes to: its tree, or a fault; want of memory says nothing
abbrev pub IsScriptRefusal : Result Tree Cause → JobError → Type 0
IsScriptRefusal read (error.Script cause place) = read ≡ Err cause
IsScriptRefusal read error.Memory = Unit {0}
IsScriptRefusal read _ = ⊥

-- an image that is too long: its operations count first
abbrev pub IsTooLong : Code → AsmError → Type 0
IsTooLong code assembler.Operations = 4096 < length code.operations
IsTooLong code assembler.Messages = (length code.operations ≤ 4096) × (1024 < length code.messages)
IsTooLong code assembler.Memory = ⊥

-- an image that the loader refuses for its budget, or where that is kept for its periods; it refuses none for another
-- cause
abbrev pub IsTooMuch : Code → LoadError → Type 0
IsTooMuch code loader.Budget = ¬ IsWithin code
IsTooMuch code loader.Periods = IsWithin code × ¬ HasShortPeriods code
IsTooMuch code _ = ⊥

-- an image of which a program is made: it is not too long, and the loader refuses it for nothing
pub record HasProgram (code : Code) : Type 0 where
  pub operations : length code.operations ≤ 4096
  pub messages : length code.messages ≤ 1024
  pub within : IsWithin code
  pub short : HasShortPeriods code

-- how many messages the lines of a job have inserted, by number, by time and by command
abbrev pub all_inserts : List Placed → List TimedAction → ℕ
all_inserts actions whens = own_inserts actions + timed_inserts whens

-- the messages that a job has inserted and those that its code sends at worst are more than 1,000,000
abbrev pub AreTooMany : List Placed → List TimedAction → Code → Type 0
AreTooMany actions whens code = 1000000 < all_inserts actions whens + worst_messages code.operations

abbrev pub IsCodeRefusal : Code → JobError → Type 0
IsCodeRefusal code (error.Assembly line why) = IsTooLong code why
IsCodeRefusal code (error.Loading line why) = IsTooMuch code why
IsCodeRefusal code error.Memory = Unit {0}
IsCodeRefusal code _ = ⊥

-- A refusal for a cause other than memory: there is no job, or its script has an image that is too long or that the
-- loader refuses for its budget or its periods.
abbrev pub IsJobRefusal : Option Written → JobError → Type 0
IsJobRefusal written (error.Line line why) = written ≡ None
IsJobRefusal written (error.Script cause place) = written ≡ None
IsJobRefusal written (error.Assembly line why) = (w : Written) × (written ≡ Some w)
    × IsTooLong (code_of_tree w.job.tree) why
IsJobRefusal written (error.Loading line why) = (w : Written) × (written ≡ Some w)
    × IsTooMuch (code_of_tree w.job.tree) why
IsJobRefusal written (error.Inserts line) = (w : Written) × (written ≡ Some w)
    × AreTooMany w.job.actions w.timed.whens (code_of_tree w.job.tree)
IsJobRefusal written error.Memory = Unit {0}
