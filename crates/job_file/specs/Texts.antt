-- The jobs of several texts, in their order (own choice).
use Rattle.std.specs.Prelude.{◌≡◌, ℕ, ◌+◌, ◌<◌, ◌≤◌, List, length, map, slice_get, Option, Some}
use Rattle.text_lines.specs.Words.{Text}
use Rattle.frame_asm.specs.Shapes.{code_of_tree}
use Rattle.frame_load.specs.Budget.{worst_messages}
use Rattle.frame_load.specs.Judging.{IsWithin, HasShortPeriods}
use Rattle.job_file.specs.Spelled.{ChannelJob, Written, written, spelled}
use Rattle.job_file.specs.Reading.{IsJobRefusal, all_inserts}
use Rattle.job_file.specs.Faults.{IsFirstFault}
use Rattle.job_file.specs.declared.error.JobError.{JobError}

-- each text spells the job at its place
abbrev pub AreSpelled : List Text → List ChannelJob → Type 0
AreSpelled texts jobs = map spelled texts ≡ map Some jobs

-- what is written has an image that is not too long, and that the loader accepts; the messages that its lines have
-- inserted and those that its script sends at worst are not too many
pub record HasAccepted (o : Option Written) : Type 0 where
  pub says : Written
  pub reads : o ≡ Some says
  pub operations : length (code_of_tree says.job.tree).operations ≤ 4096
  pub messages : length (code_of_tree says.job.tree).messages ≤ 1024
  pub within : IsWithin (code_of_tree says.job.tree)
  pub short : HasShortPeriods (code_of_tree says.job.tree)
  pub few : all_inserts says.job.actions says.timed.whens + worst_messages (code_of_tree says.job.tree).operations
      ≤ 1000000

-- a text that gives a job
pub record IsAccepted (text : Text) : Type 0 where
  pub job : ChannelJob
  pub spells : spelled text ≡ Some job
  pub well : HasAccepted (written text)

-- the first text that is refused, and why: those before it give a job each
pub record IsFirstRefused (texts : List Text) (index : ℕ) (fault : JobError) : Type 0 where
  pub text : Text
  pub there : slice_get texts index ≡ Some text
  pub refused : IsJobRefusal (written text) fault
  pub first : IsFirstFault text fault
  pub before : (i : ℕ) (earlier : Text) → i < index → slice_get texts i ≡ Some earlier → IsAccepted earlier
