-- Counters that have counted the messages made, and one message more.
use Rattle.std.proofs.Common.{◌≡◌, ℕ, suc, zero, ◌<◌, ◌≤◌, Bool, true, false, List, [], ◌∷◌, ◌++◌, length, get_or, All, refl, sym, ap, subst, ◌∙◌, arith}
use Rattle.std.specs.Prelude.{◌||◌, nat_le, slice_get, Option, Some, None}
use Rattle.std.specs.List.{list_any}
use Rattle.std.specs.Option.{option_map}
use Rattle.std.proofs.lemmas.List.{length-map, get_or_default, map_push}
use Rattle.std.proofs.lemmas.List.Folds.{list_any-append}
use Rattle.std.proofs.lemmas.List.Sums.{count_by-le-length}
use Rattle.std.proofs.lemmas.Option.{slice_get-map, slice_get-get_or, slice_get_read, slice_get_within, same_Some}
use Rattle.judge_rules.specs.declared.rules.Selector.{Selector}
use Rattle.job_moments.specs.declared.counts.Counter.{Counter}
use Rattle.job_moments.specs.declared.met.Met.{Met}
use Rattle.job_moments.specs.Counting.{selectors_of, HasCounted, HasCounter, MayCount}
use Rattle.job_moments.specs.Moments.{is_about, count_of, starts_by}

-- a counter with one message more
pub record HasMet (met : Met) (old new : Counter) : Type 0 where
  pub selector : new.selector ≡ old.selector
  pub counted : (made : List Met) → HasCounted made old → HasCounted (made ++ met ∷ []) new

-- the same selectors, where each counter has that of the one that stood at its place
pub same_selectors : (old new : List Counter) → length new ≡ length old
    → ((k : ℕ) (d : Counter) → k < length old → (get_or new k d).selector ≡ (get_or old k d).selector)
    → selectors_of new ≡ selectors_of old
same_selectors [] [] long each = refl
same_selectors [] (n ∷ ns) long each = absurd (omega (arith, long))
same_selectors (o ∷ os) [] long each = absurd (omega (arith, long))
same_selectors (o ∷ os) (n ∷ ns) long each =
    let first : n.selector ≡ o.selector = each 0 o (omega arith) in
    let rest : selectors_of ns ≡ selectors_of os = same_selectors os ns (omega (arith, long)) (λ k d lt. each (suc k) d (omega (arith, lt))) in
    rw first (ap (λ (ss : List Selector). o.selector ∷ ss) rest)

-- no more count for a selector than were made
pub may_count : (made : List Met) (counters : List Counter) → length made < 1000000 → All (HasCounted made) counters → All MayCount counters
may_count made counters few all k d within =
    let counter = get_or counters k d in
    omega (arith, all k d within, count_by-le-length (is_about counter.selector) made, few)

-- a selector keeps its place where one is put behind the others
pub place_kept : (selectors : List Selector) (more : Selector) (place : ℕ) (selector : Selector)
    → slice_get selectors place ≡ Some selector → slice_get (selectors ++ more ∷ []) place ≡ Some selector
place_kept [] more place selector there = absurd cc
place_kept (s ∷ ss) more zero selector there = there
place_kept (s ∷ ss) more (suc place) selector there = place_kept ss more place selector there

pub place_last : (selectors : List Selector) (more : Selector) (place : ℕ) → place ≡ length selectors
    → slice_get (selectors ++ more ∷ []) place ≡ Some more
place_last selectors more place is = ap (λ n. slice_get (selectors ++ more ∷ []) n) is ∙ at selectors
  where
    at : (ss : List Selector) → slice_get (ss ++ more ∷ []) (length ss) ≡ Some more
    at [] = refl
    at (s ∷ ss) = at ss

-- what the counter of a place has counted
pub counted_at : (made : List Met) (counters : List Counter) (place : ℕ) (c : Counter) (selector : Selector)
    → All (HasCounted made) counters → place < length counters → c ≡ get_or counters place c
    → slice_get (selectors_of counters) place ≡ Some selector → c.count ≡ count_of selector made
counted_at made counters place c selector all within is at =
    let there : slice_get counters place ≡ Some c = slice_get_read counters (length counters) place c refl within is in
    let both : Some c.selector ≡ Some selector =
    ap (option_map (λ (d : Counter). d.selector)) (sym there) ∙ sym (slice_get-map (λ (d : Counter). d.selector) counters place) ∙ at in
    subst (λ (s : Selector). c.count ≡ count_of s made) (same_Some c.selector selector both)
    (subst (HasCounted made) (sym is) (all place c within))

pub counter_there : (counters : List Counter) (place : ℕ) (selector : Selector)
    → slice_get (selectors_of counters) place ≡ Some selector → place < length counters
counter_there counters place selector at =
    omega (arith, slice_get_within (selectors_of counters) place selector at, length-map counters (λ (d : Counter). d.selector))

-- no more count than were made
pub few_of : (made : List Met) (selector : Selector) (count : ℕ) → count ≡ count_of selector made → count ≤ length made
few_of made selector count is = omega (arith, is, count_by-le-length (is_about selector) made)

or_false : (b : Bool) → (b || false) ≡ b
or_false true = refl
or_false false = refl

-- whether a time was met, with one message more
pub met_more : (made : List Met) (met : Met) (ticks : ℕ) (before now : Bool) → before ≡ list_any (starts_by ticks) made
    → now ≡ (before || nat_le ticks met.start) → now ≡ list_any (starts_by ticks) (made ++ met ∷ [])
met_more made met ticks before now was is =
    is ∙ ap (λ b. b || nat_le ticks met.start) was
    ∙ ap (λ b. list_any (starts_by ticks) made || b) (sym (or_false (nat_le ticks met.start)))
    ∙ sym (list_any-append (starts_by ticks) made (met ∷ []))

-- the place of a selector's counter
pub selector_at : (counters : List Counter) (place : ℕ) (e : Counter) (selector : Selector) → place < length counters
    → (get_or counters place e).selector ≡ selector → slice_get (selectors_of counters) place ≡ Some selector
selector_at counters place e selector within is =
    slice_get-map (λ (d : Counter). d.selector) counters place
    ∙ ap (option_map (λ (d : Counter). d.selector)) (slice_get-get_or counters place e within)
    ∙ ap (λ (s : Selector). Some s) is

-- what a counter is with one message more, whatever the list is read by
pub met_at : (met : Met) (now : List Counter) (i : ℕ) (e new : Counter) → i < length now
    → new.selector ≡ (get_or now i e).selector
    → ((made : List Met) → HasCounted made (get_or now i e) → HasCounted (made ++ met ∷ []) new)
    → (d : Counter) → HasMet met (get_or now i d) new
met_at met now i e new within selector counted d =
    subst (λ (c : Counter). HasMet met c new) (get_or_default now i e d within) (record { selector = selector; counted = counted })

-- with a counter behind the others
pub counter_put : (old new : List Counter) (c : Counter) (place : ℕ) (asked : Option Selector) → new ≡ old ++ c ∷ []
    → place ≡ length old → asked ≡ Some c.selector → HasCounter (selectors_of new) place asked
counter_put old new c place asked is at some =
    let selectors : selectors_of new ≡ selectors_of old ++ c.selector ∷ [] = ap selectors_of is ∙ map_push (λ (d : Counter). d.selector) old c in
    let last : slice_get (selectors_of old ++ c.selector ∷ []) place ≡ Some c.selector =
    place_last (selectors_of old) c.selector place (at ∙ sym (length-map old (λ (d : Counter). d.selector))) in
    subst (λ (o : Option Selector). HasCounter (selectors_of new) place o) (sym some)
    (subst (λ (ss : List Selector). slice_get ss place ≡ Some c.selector) (sym selectors) last)

pub counter_kept : (old new : List Counter) (c : Counter) (place : ℕ) (asked : Option Selector) → new ≡ old ++ c ∷ []
    → HasCounter (selectors_of old) place asked → HasCounter (selectors_of new) place asked
counter_kept old new c place None is had = had
counter_kept old new c place (Some selector) is had =
    let selectors : selectors_of new ≡ selectors_of old ++ c.selector ∷ [] = ap selectors_of is ∙ map_push (λ (d : Counter). d.selector) old c in
    subst (λ (ss : List Selector). slice_get ss place ≡ Some selector) (sym selectors)
    (place_kept (selectors_of old) c.selector place selector had)
