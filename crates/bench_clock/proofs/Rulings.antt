-- The mark that rules a stamp.
use Rattle.std.proofs.Common.{◌≡◌, ℕ, zero, suc, ◌+◌, ◌-◌, ◌*◌, ◌<◌, ◌≤◌, true, false, ltb, List, [], ◌∷◌, refl, ap, arith}
use Rattle.std.specs.Prelude.{slice_get, Option, None, Some}
use Rattle.std.proofs.lemmas.Bool.{lt-ltb, le-ltb}
use Rattle.bench_clock.specs.declared.clock.Mark.{Mark}
use Rattle.bench_clock.specs.Time.{Time}
use Rattle.bench_clock.specs.Clock.{ruling, within_years, time_behind, time_at}

-- all marks stand behind the stamp
pub none_rules : (ms : List Mark) (stamp : ℕ) → ((j : ℕ) (m : Mark) → slice_get ms j ≡ Some m → stamp < m.counter) → ruling stamp ms ≡ None
none_rules [] stamp behind = refl
none_rules (m ∷ ms) stamp behind =
    let rest : ruling stamp ms ≡ None = none_rules ms stamp (λ j x is. behind (suc j) x is) in
    let here : ltb stamp m.counter ≡ true = lt-ltb stamp m.counter (behind 0 m refl) in
    rw (rest, here) refl

-- the mark at a place rules where it does not stand behind the stamp, and all others behind it do
pub one_rules : (ms : List Mark) (i : ℕ) (m : Mark) (stamp : ℕ) → slice_get ms i ≡ Some m → m.counter ≤ stamp
    → ((j : ℕ) (x : Mark) → i < j → slice_get ms j ≡ Some x → stamp < x.counter) → ruling stamp ms ≡ Some m
one_rules [] i m stamp there from last = absurd (cc)
one_rules (x ∷ xs) zero m stamp there from last =
    let rest : ruling stamp xs ≡ None = none_rules xs stamp (λ j y is. last (suc j) y (omega arith) is) in
    let same : x ≡ m = cc in
    let here : ltb stamp x.counter ≡ false = le-ltb stamp x.counter (omega (arith, from, ap (λ (z : Mark). z.counter) same)) in
    rw (rest, here) (ap (λ (z : Mark). Some z) same)
one_rules (x ∷ xs) (suc i) m stamp there from last =
    let rest : ruling stamp xs ≡ Some m = one_rules xs i m stamp there from (λ j y lt is. last (suc j) y (omega (arith, lt)) is) in
    rw rest refl

-- the time at a stamp, by the mark that rules it
pub time_is : (ms : List Mark) (i : ℕ) (m : Mark) (stamp : ℕ) (answer : Option Time) → slice_get ms i ≡ Some m → m.counter ≤ stamp
    → ((j : ℕ) (x : Mark) → i < j → slice_get ms j ≡ Some x → stamp < x.counter)
    → answer ≡ time_behind m.time (stamp - m.counter) → answer ≡ time_at ms stamp
time_is ms i m stamp answer there from last is = rw (one_rules ms i m stamp there from last) is

-- in front of the first mark there is no time
pub no_time : (ms : List Mark) (stamp : ℕ) → ((j : ℕ) (m : Mark) → slice_get ms j ≡ Some m → stamp < m.counter) → None ≡ time_at ms stamp
no_time ms stamp behind = rw (none_rules ms stamp behind) refl

pub early : (ticks sum : ℕ) → ticks ≡ sum → ticks < 2534023008000000000 → Some ticks ≡ within_years sum
early ticks sum is lt = rw (lt-ltb sum 2534023008000000000 (omega (arith, is, lt))) (ap (λ (k : ℕ). Some k) is)

pub late : (sum : ℕ) → 2534023008000000000 ≤ sum → None ≡ within_years sum
late sum le = rw (le-ltb sum 2534023008000000000 le) refl
