-- The error of the line of this number, which was not taken in.
use Rattle.std.specs.Prelude.{◌≡◌, ℕ}
use Rattle.job_file.specs.declared.error.Refusal.{Refusal}
use Rattle.job_file.specs.declared.error.Refusal.TheVariants as refusal
use Rattle.job_file.specs.declared.error.JobError.{JobError}
use Rattle.job_file.specs.declared.error.JobError.TheVariants as error

abbrev pub IsOfLine : ℕ → Refusal → JobError → Type 0
IsOfLine line (refusal.Line why) (error.Line number because) = (number ≡ line) × (because ≡ why)
IsOfLine line refusal.Memory error.Memory = Unit {0}
IsOfLine _ _ _ = ⊥
