-- What the check of a job comes to (own choice).
use Rattle.std.specs.Prelude.{◌≡◌, ◌||◌, ◌==◌, Bool, true, false, not, List, [], ◌++◌, length, Option}
use Rattle.std.specs.Io.KnownBytes.{Appends}
use Rattle.text_lines.specs.Words.{Text}
use Rattle.job_file.specs.Jobs.{JobState, tree_in}
use Rattle.job_file.specs.Rooms.{most_items}
use Rattle.job_file.specs.Timed.{says_nothing}
use Rattle.bench_check.specs.declared.checked.Checked.{Checked}
use Rattle.bench_check.specs.declared.checked.Way.{Way}
use Rattle.bench_check.specs.declared.findings.Findings.{Findings}
use Rattle.bench_check.specs.declared.mistakes.Mistake.{Mistake}
use Rattle.bench_check.specs.Fitting.{tight_frames}
use Rattle.bench_check.specs.Listing.{IsTold}
use Rattle.bench_check.specs.MistakeLines.{findings_text}
use Rattle.bench_check.specs.Mistakes.{mistakes}
use Rattle.bench_check.specs.Overruns.{overruns}
use Rattle.bench_check.specs.Unmet.{made, unmet}

-- what was found in a job that was tried, and all that is probably a mistake then: first what was found in its lines by
-- time or by command, which is left open; nothing where there are none
pub record AreMistakesOf (is_all : Bool) (job : JobState) (f : Findings) (ms : List Mistake) : Type 0 where
  pub made : f.made ≡ made job
  pub unmet : f.unmet.items ≡ unmet job
  pub overruns : f.overruns.items ≡ overruns job
  pub room : f.room ≡ most_items 0 job
  pub lines : List Mistake
  pub none : says_nothing job.timed ≡ true → lines ≡ []
  pub all : ms ≡ lines ++ mistakes is_all job f (tight_frames (tree_in job))

-- all that is probably a mistake in a job
pub record AreMistakes (is_all : Bool) (job : JobState) (ms : List Mistake) : Type 0 where
  pub found : Findings
  pub of : AreMistakesOf is_all job found ms

-- whether there are mistakes
abbrev pub is_any : List Mistake → Bool
is_any ms = not (length ms == 0)

-- what a writer gets of the messages and frames of a job; nothing in a summary
abbrev pub ListsMessages : Bool → JobState → Option Text → Option Text → Type 0
ListsMessages true job old new = old ≡ new
ListsMessages false job old new = IsTold job old new

-- A job was checked in this way: its messages and frames are told, unless they are only counted, then the mistakes that
-- were found, and the room that it needs; and it is suspicious exactly where there is such a mistake.
pub record IsChecked (way : Way) (job : JobState) (old new : Option Text) (c : Checked) : Type 0 where
  pub found : Findings
  pub ms : List Mistake
  pub of : AreMistakesOf (way.summary || way.strict) job found ms
  pub room : c.room ≡ most_items 0 job
  pub suspicious : c.is_suspicious ≡ is_any ms
  pub between : Option Text
  pub listed : ListsMessages way.summary job old between
  pub text : Appends between new (findings_text way.summary found ms)
