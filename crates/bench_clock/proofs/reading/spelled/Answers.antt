use Rattle.std.proofs.Common.{◌≡◌, ◌+◌, ◌*◌, ◌/◌, ◌%◌, ◌≤◌, ℕ, List, slice_index_or, ap, arith}
use Rattle.std.specs.Prelude.{None, Some}
use Rattle.bench_clock.specs.Calendar.{Day, day_numbered}
use Rattle.bench_clock.proofs.Days.{small_parts}
use Rattle.bench_clock.proofs.reading.spelled.Goals as goal

pub returns-in_err-day-clause-found : goal.returns-in_err-day-clause-found
returns-in_err-day-clause-found c t lt is =
    let most : t / 86400 ≤ 2932896 = omega (arith, lt) in
    let date : Day = day_numbered (t / 86400) in
    let parts = small_parts (t / 86400) most in
    let century = c.number_of.ensures.number (date.year / 100) (omega (arith, parts.0)) (ap (λ (xs : List ℕ). slice_index_or xs 11 0) is) in
    let year = c.number_of-2.ensures.number (date.year % 100) (omega arith) (ap (λ (xs : List ℕ). slice_index_or xs 10 0) is) in
    let month = c.number_of-3.ensures.number date.month (omega (arith, parts.1)) (ap (λ (xs : List ℕ). slice_index_or xs 9 0) is) in
    let day = c.number_of-4.ensures.number date.day (omega (arith, parts.2)) (ap (λ (xs : List ℕ). slice_index_or xs 8 0) is) in
    let whole : c.from.result * 100 + c.from-2.result ≡ date.year = omega (arith, century, year, c.from.ensures, c.from-2.ensures) in
    let none : None ≡ Some (t / 86400) = c.in_err-day.ensures.found (t / 86400) most whole month day in
    absurd (cc)

pub returns-clause-found : goal.returns-clause-found
returns-clause-found c t lt is =
    let most : t / 86400 ≤ 2932896 = omega (arith, lt) in
    let date : Day = day_numbered (t / 86400) in
    let parts = small_parts (t / 86400) most in
    let century = c.number_of.ensures.number (date.year / 100) (omega (arith, parts.0)) (ap (λ (xs : List ℕ). slice_index_or xs 11 0) is) in
    let year = c.number_of-2.ensures.number (date.year % 100) (omega arith) (ap (λ (xs : List ℕ). slice_index_or xs 10 0) is) in
    let month = c.number_of-3.ensures.number date.month (omega (arith, parts.1)) (ap (λ (xs : List ℕ). slice_index_or xs 9 0) is) in
    let day = c.number_of-4.ensures.number date.day (omega (arith, parts.2)) (ap (λ (xs : List ℕ). slice_index_or xs 8 0) is) in
    let whole : c.from.result * 100 + c.from-2.result ≡ date.year = omega (arith, century, year, c.from.ensures, c.from-2.ensures) in
    let found : Some c.in_ok-day.day ≡ Some (t / 86400) = c.in_ok-day.ensures.found (t / 86400) most whole month day in
    let days : c.in_ok-day.day ≡ t / 86400 = cc in
    let hours = c.number_of-5.ensures.number (t % 86400 / 3600) (omega arith) (ap (λ (xs : List ℕ). slice_index_or xs 7 0) is) in
    let minutes = c.number_of-6.ensures.number (t % 86400 / 60 % 60) (omega arith) (ap (λ (xs : List ℕ). slice_index_or xs 6 0) is) in
    let seconds = c.number_of-7.ensures.number (t % 86400 % 60) (omega arith) (ap (λ (xs : List ℕ). slice_index_or xs 5 0) is) in
    ap (λ (k : ℕ). Some k) (omega (arith, days, hours, minutes, seconds, c.from-hours.ensures, c.from-minutes.ensures, c.from-3.ensures))
