-- Lists of changes that rise, or nearly so, and two of them one behind the other.
use Rattle.std.proofs.Common.{◌≡◌, ℕ, zero, suc, ◌+◌, ◌<◌, ◌≤◌, List, [], ◌∷◌, ◌++◌, length, get_or, refl, sym, ap, subst, arith}
use Rattle.std.specs.List.{All}
use Rattle.std.specs.List.Sorted.{IsNonDecreasingBy}
use Rattle.std.proofs.lemmas.List.Elements.{All-nil, All-cons, All-head, All-tail, All-append, All-weaker}
use Rattle.bench_export.specs.Changes.{tick_of}
use Rattle.bench_export.specs.Merging.{IsLag}
use Rattle.bench_export.specs.declared.changes.Change.{Change}

-- what holds of two lists holds of each
pub all_left : (P : Change → Type 0) (us vs : List Change) → All P (us ++ vs) → All P us
all_left P [] vs h = All-nil P
all_left P (a ∷ us) vs h = All-cons P a us (All-head P a (us ++ vs) h) (all_left P us vs (All-tail P a (us ++ vs) h))

pub all_right : (P : Change → Type 0) (us vs : List Change) → All P (us ++ vs) → All P vs
all_right P [] vs h = h
all_right P (a ∷ us) vs h = all_right P us vs (All-tail P a (us ++ vs) h)

-- each of the second lies at most a lag before each of the first
abbrev pub Across : ℕ → List Change → List Change → Type 0
Across lag us vs = All (λ (a : Change). All (λ (b : Change). a.tick ≤ b.tick + lag) vs) us

pub lag_both : (lag : ℕ) (us vs : List Change) → IsLag lag us → IsLag lag vs → Across lag us vs → IsLag lag (us ++ vs)
lag_both lag [] vs la lb h = lb
lag_both lag (a ∷ us) vs la lb h = (
  All-append (λ (x : Change). a.tick ≤ x.tick + lag) us vs la.0 (All-head (λ (x : Change). All (λ (b : Change). x.tick ≤ b.tick + lag) vs) a us h),
  lag_both lag us vs la.1 lb (All-tail (λ (x : Change). All (λ (b : Change). x.tick ≤ b.tick + lag) vs) a us h),
)

pub lag_across : (lag : ℕ) (us vs : List Change) → IsLag lag (us ++ vs) → Across lag us vs
lag_across lag [] vs l = All-nil (λ (x : Change). All (λ (b : Change). x.tick ≤ b.tick + lag) vs)
lag_across lag (a ∷ us) vs l = All-cons (λ (x : Change). All (λ (b : Change). x.tick ≤ b.tick + lag) vs) a us
    (all_right (λ (x : Change). a.tick ≤ x.tick + lag) us vs l.0) (lag_across lag us vs l.1)

pub lag_wider : (lag more : ℕ) (cs : List Change) → lag ≤ more → IsLag lag cs → IsLag more cs
lag_wider lag more [] le l = tt
lag_wider lag more (c ∷ cs) le l = (
  All-weaker (λ (x : Change). c.tick ≤ x.tick + lag) (λ (x : Change). c.tick ≤ x.tick + more) (λ x h. omega (arith, h, le)) cs l.0,
  lag_wider lag more cs le l.1,
)

-- without a lag changes rise
pub rises : (cs : List Change) → IsLag 0 cs → IsNonDecreasingBy tick_of cs
rises [] l i j d le lt = absurd (omega (arith, lt))
rises (c ∷ cs) l zero zero d le lt = omega arith
rises (c ∷ cs) l zero (suc j) d le lt = omega (arith, l.0 j d (omega (arith, lt)))
rises (c ∷ cs) l (suc i) zero d le lt = absurd (omega (arith, le))
rises (c ∷ cs) l (suc i) (suc j) d le lt = rises cs l.1 i j d (omega (arith, le)) (omega (arith, lt))

pub no_lag : (cs : List Change) → IsNonDecreasingBy tick_of cs → IsLag 0 cs
no_lag [] r = tt
no_lag (c ∷ cs) r = (
  λ k d lt. omega (arith, r 0 (suc k) d (omega arith) (omega (arith, lt))),
  no_lag cs (λ i j d le lt. r (suc i) (suc j) d (omega (arith, le)) (omega (arith, lt))),
)

-- two lists that rise, of which the second is not before the first
pub rises_both : (us vs : List Change) → IsNonDecreasingBy tick_of us → IsNonDecreasingBy tick_of vs
    → All (λ (a : Change). All (λ (b : Change). a.tick ≤ b.tick) vs) us → IsNonDecreasingBy tick_of (us ++ vs)
rises_both us vs ra rb h = rises (us ++ vs) (lag_both 0 us vs (no_lag us ra) (no_lag vs rb)
    (All-weaker (λ (a : Change). All (λ (b : Change). a.tick ≤ b.tick) vs) (λ (a : Change). All (λ (b : Change). a.tick ≤ b.tick + 0) vs)
    (λ a g. All-weaker (λ (b : Change). a.tick ≤ b.tick) (λ (b : Change). a.tick ≤ b.tick + 0) (λ b le. omega (arith, le)) vs g) us h))

-- a list that rises, cut somewhere
pub apart_at : (us vs : List Change) → IsNonDecreasingBy tick_of (us ++ vs) → All (λ (a : Change). All (λ (b : Change). a.tick ≤ b.tick) vs) us
apart_at us vs r =
    All-weaker (λ (a : Change). All (λ (b : Change). a.tick ≤ b.tick + 0) vs) (λ (a : Change). All (λ (b : Change). a.tick ≤ b.tick) vs)
    (λ a g. All-weaker (λ (b : Change). a.tick ≤ b.tick + 0) (λ (b : Change). a.tick ≤ b.tick) (λ b le. omega (arith, le)) vs g) us
    (lag_across 0 us vs (no_lag (us ++ vs) r))
