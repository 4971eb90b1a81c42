-- An event that comes to the stations of a bus, one after the other.
use Rattle.std.proofs.Common.{refl, ◌≡◌, ◌≢◌, ℕ, set, below_more, get_or-set_other, get_or-set_same, length-set, ◌+◌, ◌<◌, ◌≤◌, List, map, length, get_or, ◌∙◌, arith}
use Rattle.std.specs.Int.{bit_at}
use Rattle.mil_terminal.specs.Station.{Station}
use Rattle.mil_bus.specs.Index.{IsClosed, AreClosed, HasCome}
use Rattle.mil_bus.proofs.Stations.{all_told, met-more, rest-more}

pub has_begun : (f : Station → Station) (old : List Station) (opened : ℕ) → HasCome f old old 0 opened
has_begun f old opened = record {
  long = refl;
  met = λ k d lt. absurd (omega arith);
  rest = λ k d le. refl;
  closed = λ k d lt clear. absurd (omega arith);
}

-- it comes to one station more, where y is that station afterwards
pub one_more : (f : Station → Station) (old xs : List Station) (i before opened : ℕ) (y z : Station) → i < length old
    → HasCome f old xs i before → y ≡ f z → z ≡ get_or xs i z
    → (bit_at opened i ≡ 0 → IsClosed y) → ((k : ℕ) → k < i → bit_at opened k ≡ 0 → bit_at before k ≡ 0)
    → HasCome f old (set xs i y) (i + 1) opened
one_more f old xs i before opened y z lt come e is closed kept = record {
  long = length-set xs i y ∙ come.long;
  met = met-more f old xs i y z lt come.long come.met come.rest e is;
  rest = rest-more old xs i y come.rest;
  closed = λ k d h clear. below_more (λ j. (d : Station) → bit_at opened j ≡ 0 → IsClosed (get_or (set xs i y) j d)) i
      (λ j lt-j d clear. let ne : j ≢ i = omega arith in rw (get_or-set_other xs i j y d ne) (come.closed j d lt-j (kept j lt-j clear)))
      (λ d clear. let here : i < length xs = omega (arith, come.long) in rw (get_or-set_same xs i y d here) (closed clear))
      k h d clear;
}

pub all_met : (f : Station → Station) (old new : List Station) (place opened : ℕ) → length old ≤ place → HasCome f old new place opened → new ≡ map f old
all_met f old new place opened le come = all_told f old new come.long (λ k d lt. come.met k d (omega arith))

pub all_closed : (f : Station → Station) (old new : List Station) (place opened : ℕ) → length old ≤ place → HasCome f old new place opened → AreClosed opened new
all_closed f old new place opened le come = λ k d lt clear. come.closed k d (omega (arith, come.long)) clear
