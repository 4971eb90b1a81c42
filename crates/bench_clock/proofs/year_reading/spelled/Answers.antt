use Rattle.std.proofs.Common.{◌≡◌, ◌+◌, ◌-◌, ◌*◌, ◌/◌, ◌%◌, ◌<◌, ◌≤◌, ℕ, List, slice_index_or, ap, arith}
use Rattle.std.specs.Prelude.{None, Some}
use Rattle.bench_clock.proofs.Bodies.{year_short}
use Rattle.bench_clock.proofs.year_reading.spelled.Goals as goal

days : (t hundreds day less : ℕ) → hundreds ≡ (t / 86400 + 1) / 100 → day ≡ (t / 86400 + 1) % 100 → less ≡ hundreds * 100 + day - 1 → less ≡ t / 86400
days t hundreds day less h d is =
    let whole : hundreds * 100 + day ≡ t / 86400 + 1 = omega (arith, h, d) in
    omega (arith, whole, is)

behind : (t day hours minutes seconds : ℕ) → day ≡ t / 86400 → hours ≡ t % 86400 / 3600 → minutes ≡ t / 60 % 60 → seconds ≡ t % 60 → day * 86400 + (hours * 3600 + minutes * 60 + seconds) ≡ t
behind t day hours minutes seconds d h m s = omega (arith, d, h, m, s)

pub returns-then-behind-year_seconds-clause-found : goal.returns-then-behind-year_seconds-clause-found
returns-then-behind-year_seconds-clause-found c t lt is =
    let most : t < 31622400 = omega (arith, lt, year_short c.args.leap) in
    let hundreds : slice_index_or c.args.body.now 9 0 ≡ (t / 86400 + 1) / 100 = ap (λ (xs : List ℕ). slice_index_or xs 9 0) is in
    let day = c.number_of.ensures.number ((t / 86400 + 1) % 100) (omega arith) (ap (λ (xs : List ℕ). slice_index_or xs 8 0) is) in
    let hours = c.number_of-2.ensures.number (t % 86400 / 3600) (omega arith) (ap (λ (xs : List ℕ). slice_index_or xs 7 0) is) in
    let minutes = c.number_of-3.ensures.number (t / 60 % 60) (omega arith) (ap (λ (xs : List ℕ). slice_index_or xs 6 0) is) in
    let seconds = c.number_of-4.ensures.number (t % 60) (omega arith) (ap (λ (xs : List ℕ). slice_index_or xs 5 0) is) in
    let less = days t c.from.result c.from-2.result c.saturating_sub.result (omega (arith, c.from.ensures, hundreds)) (omega (arith, c.from-2.ensures, day)) c.saturating_sub.ensures in
    ap (λ (k : ℕ). Some k) (behind t c.saturating_sub.result c.from-hours.result c.from-minutes.result c.from-3.result less (omega (arith, c.from-hours.ensures, hours)) (omega (arith, c.from-minutes.ensures, minutes)) (omega (arith, c.from-3.ensures, seconds)))

pub returns-else-behind-year_seconds-clause-found : goal.returns-else-behind-year_seconds-clause-found
returns-else-behind-year_seconds-clause-found c t lt is =
    let hundreds : slice_index_or c.args.body.now 9 0 ≡ (t / 86400 + 1) / 100 = ap (λ (xs : List ℕ). slice_index_or xs 9 0) is in
    let day = c.number_of.ensures.number ((t / 86400 + 1) % 100) (omega arith) (ap (λ (xs : List ℕ). slice_index_or xs 8 0) is) in
    let most : t < 31622400 = omega (arith, lt, year_short c.args.leap) in
    let hours = c.number_of-2.ensures.number (t % 86400 / 3600) (omega arith) (ap (λ (xs : List ℕ). slice_index_or xs 7 0) is) in
    let minutes = c.number_of-3.ensures.number (t / 60 % 60) (omega arith) (ap (λ (xs : List ℕ). slice_index_or xs 6 0) is) in
    let seconds = c.number_of-4.ensures.number (t % 60) (omega arith) (ap (λ (xs : List ℕ). slice_index_or xs 5 0) is) in
    let less = days t c.from.result c.from-2.result c.saturating_sub.result (omega (arith, c.from.ensures, hundreds)) (omega (arith, c.from-2.ensures, day)) c.saturating_sub.ensures in
    let whole = behind t c.saturating_sub.result c.from-hours.result c.from-minutes.result c.from-3.result less (omega (arith, c.from-hours.ensures, hours)) (omega (arith, c.from-minutes.ensures, minutes)) (omega (arith, c.from-3.ensures, seconds)) in
    absurd (omega (arith, whole, lt, c.year_seconds.ensures, c.if-behind-year_seconds.false))
