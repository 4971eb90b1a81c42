-- Messages in front of which nothing of some kind is due: those that start in some ticks, while few enough were made.
use Rattle.std.specs.Prelude.{◌≡◌, ◌<◌, ◌≤◌, ◌++◌, Bool, false, List, length}
use Rattle.job_moments.specs.declared.met.Met.{Met}
use Rattle.job_moments.specs.declared.quiet.Quiet.{Quiet}

-- one of them comes next, behind these
pub record IsQuiet (q : Quiet) (made : List Met) (next : Met) : Type 0 where
  pub from : q.from ≤ next.start
  pub until : next.start < q.until
  pub wake : length made < q.wake

-- some of these messages
pub record IsPart (part whole : Quiet) : Type 0 where
  pub from : whole.from ≤ part.from
  pub until : part.until ≤ whole.until
  pub wake : part.wake ≤ whole.wake

-- from these messages on, whichever come, it is not due in front of any of them
abbrev pub Sleeps : Quiet → List Met → (List Met → Met → Bool) → Type 0
Sleeps q made due = (more : List Met) (next : Met) → IsQuiet q (made ++ more) next → due (made ++ more) next ≡ false
