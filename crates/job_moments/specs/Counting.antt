-- What was counted of the messages made: how many some selectors are about.
use Rattle.std.specs.Prelude.{◌≡◌, ℕ, ⊤, ◌<◌, Bool, false, nat_le, List, All, map, length, slice_get}
use Rattle.std.specs.Prelude.{Option, Some, None}
use Rattle.std.specs.List.{list_any}
use Rattle.judge_rules.specs.declared.rules.Selector.{Selector}
use Rattle.job_moments.specs.declared.counts.Counter.{Counter}
use Rattle.job_moments.specs.declared.counts.Counts.TheInside.{Inside}
use Rattle.job_moments.specs.declared.met.Met.{Met}
use Rattle.job_moments.specs.Moments.{count_of, starts_by}

pub record Counted : Type 0 where
  -- those that have a counter, by its place
  pub selectors : List Selector
  pub made : List Met

-- the counter of a place is that of a selector, if there is one
abbrev pub HasCounter : List Selector → ℕ → Option Selector → Type 0
HasCounter selectors place None = ⊤
HasCounter selectors place (Some selector) = slice_get selectors place ≡ Some selector

abbrev pub selectors_of : List Counter → List Selector
selectors_of counters = map (λ (c : Counter). c.selector) counters

abbrev pub counted_in : Inside → Counted
counted_in c = record { selectors = selectors_of c.counters.items; made = c.made }

-- whether one of the messages started at a time or later, by the latest start
abbrev pub was_met : Option ℕ → ℕ → Bool
was_met None ticks = false
was_met (Some latest) ticks = nat_le ticks latest

-- a counter has counted the messages made
abbrev pub HasCounted : List Met → Counter → Type 0
HasCounted made c = c.count ≡ count_of c.selector made

-- each has, and how many there are and the latest start are kept
pub record HaveCounted (c : Inside) : Type 0 where
  pub counters : All (HasCounted c.made) c.counters.items
  pub number : c.number ≡ length c.made
  pub latest : (ticks : ℕ) → was_met c.latest ticks ≡ list_any (starts_by ticks) c.made

-- it may count one message more
abbrev pub MayCount : Counter → Type 0
MayCount c = c.count < 1000000
