-- How changes whose packets come one after the other are brought into order while few of them are kept: how far they
-- lie before others in front of them in the file is found first, and then no change waits longer than that.
use Rattle.std.specs.Prelude.{◌≡◌, ◌≤◌, ℕ, ◌+◌, ◌*◌, nat_lt, get_or, Bool, if◌then◌else◌, List, [], ◌∷◌, ◌++◌, Option}
use Rattle.std.specs.Prelude.{None, Some}
use Rattle.std.specs.Io.KnownBytes.{Appends}
use Rattle.std.specs.List.{All, Contains}
use Rattle.std.specs.List.Sorted.{IsPermutation, IsStableByKey, IsNonDecreasingBy}
use Rattle.std.specs.Ordering.{nat_cmp}
use Rattle.bench_export.specs.Changes.{tick_of}
use Rattle.bench_export.specs.Waves.{ArePresent, changes_text}
use Rattle.bench_export.specs.Showing.{idle, shown_behind}
use Rattle.bench_export.specs.declared.changes.Change.{Change}
use Rattle.bench_export.specs.declared.lines.Shown.{Shown}

-- each change lies at most so many ticks before any in front of it
abbrev pub IsLag : ℕ → List Change → Type 0
IsLag lag [] = Unit {0}
IsLag lag (c ∷ cs) = All (λ (x : Change). c.tick ≤ x.tick + lag) cs × IsLag lag cs

-- the least tick of changes; none where there is no change
abbrev pub IsLeast : Option ℕ → List Change → Type 0
IsLeast None cs = cs ≡ []
IsLeast (Some tick) cs =
    All (λ (x : Change). tick ≤ x.tick) cs × ((c : Change) × Contains cs c × (c.tick ≡ tick))

-- the least tick, and one more
abbrev pub lower : Option ℕ → ℕ → ℕ
lower None tick = tick
lower (Some least) tick = if nat_lt least tick then least else tick

-- what is known of changes before any is written: a mark for each channel that has one, the least and the greatest
-- tick, and the lag
pub record IsSurvey (marks : List Bool) (low : Option ℕ) (high most : ℕ) (cs : List Change) : Type 0 where
  pub present : ArePresent marks cs
  pub least : IsLeast low cs
  pub newest : All (λ (x : Change). x.tick ≤ high) cs
  pub lag : IsLag most cs

-- the least tick, 0 where there is no change
abbrev pub least_tick : Option ℕ → ℕ
least_tick None = 0
least_tick (Some tick) = tick

-- the tick of the last change, or the one that was told in front of them
abbrev pub last_tick : ℕ → List Change → ℕ
last_tick last [] = last
last_tick last (c ∷ cs) = last_tick c.tick cs

-- Of waiting changes some are due, by rising tick, and the rest goes on waiting: none of these is before a due one, and
-- no change to come that lies at most a lag before each that waits.
pub record IsCut (lag : ℕ) (waiting due rest : List Change) : Type 0 where
  pub same : IsPermutation waiting (due ++ rest)
  pub stable : IsStableByKey tick_of nat_cmp waiting (due ++ rest)
  pub rising : IsNonDecreasingBy tick_of due
  pub apart : All (λ (d : Change). All (λ (r : Change). d.tick ≤ r.tick) rest) due
  pub early : (tick : ℕ) → All (λ (w : Change). w.tick ≤ tick + lag) waiting → All (λ (d : Change). d.tick ≤ tick) due

-- those that were written rise, and none of the others is before any of them
pub record AreApart (given others : List Change) : Type 0 where
  pub rising : IsNonDecreasingBy tick_of given
  pub apart : All (λ (g : Change). All (λ (c : Change). g.tick ≤ c.tick) others) given

-- what lines show is kept, line A and line B of each channel, from channel 0 on; lines beyond the end are idle
abbrev pub kept_at : List Shown → Bool → ℕ → Shown
kept_at lines on_b channel = get_or lines (channel * 2 + (if on_b then 1 else 0)) idle

abbrev pub AreShown : List Shown → List Change → Type 0
AreShown lines cs = (on_b : Bool) (channel : ℕ) → kept_at lines on_b channel ≡ shown_behind on_b channel cs

-- of the changes so far some were written, and the others wait, of which none is before any that was written, nor is
-- any to come that keeps to the lag
pub record IsMerging (first lag told : ℕ) (lines : List Shown) (got gets : Option (List ℕ))
    (so_far waiting : List Change) : Type 0 where
  pub given : List Change
  pub same : IsPermutation so_far (given ++ waiting)
  pub stable : IsStableByKey tick_of nat_cmp so_far (given ++ waiting)
  pub written : Appends got gets (changes_text first [] given)
  pub shown : AreShown lines given
  pub last : told ≡ last_tick first given
  pub apart : (future : List Change) → IsLag lag (so_far ++ future) → AreApart given (waiting ++ future)
