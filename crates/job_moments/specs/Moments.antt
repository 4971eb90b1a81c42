-- When something of a job is due (own choice): in front of the first message that starts at a time or later, or in
-- front of the one that has a place among those that a selector is about. Retries and inserted messages count like
-- others.
use Rattle.std.specs.Prelude.{ℕ, ◌+◌, ◌==◌, ◌&&◌, nat_le, Bool, List, count_by, Option, Some, None}
use Rattle.judge_rules.specs.declared.rules.Selector.{Selector}
use Rattle.judge_rules.specs.Selecting.{selects}
use Rattle.job_moments.specs.declared.met.Met.{Met}
use Rattle.job_moments.specs.declared.moments.Moment.{Moment}
use Rattle.job_moments.specs.declared.moments.Moment.TheVariants.{Time, Nth}

-- whether a selector is about a message, by its commands
abbrev pub is_about : Selector → Met → Bool
is_about selector m = selects selector m.first m.second

-- how many of these messages a selector is about
abbrev pub count_of : Selector → List Met → ℕ
count_of selector made = count_by (is_about selector) made

-- whether a message starts at a time or later
abbrev pub starts_by : ℕ → Met → Bool
starts_by ticks m = nat_le ticks m.start

-- behind these messages, in front of the one that comes next
abbrev pub is_due : List Met → Met → Moment → Bool
is_due made next (Time ticks) = nat_le ticks next.start
is_due made next (Nth selector place) = is_about selector next && count_of selector made + 1 == place

-- which messages count for a moment, if any do
abbrev pub counted_for : Moment → Option Selector
counted_for (Time ticks) = None
counted_for (Nth selector place) = Some selector
