use Rattle.std.proofs.Common.{◌≡◌, ◌/◌, ◌%◌, ℕ, ap, arith}
use Rattle.std.specs.Prelude.{None, Some}
use Rattle.bench_clock.specs.Calendar.{Day, day_numbered}
use Rattle.bench_complete.proofs.Spelled.{Spells, spells}
use Rattle.bench_complete.proofs.utc.spelled.Goals as goal

pub returns-in_err-day-clause-found : goal.returns-in_err-day-clause-found
returns-in_err-day-clause-found c s small is =
    let t : Spells c.args.text.now s = spells c.args.text.now s small is in
    let date : Day = day_numbered (s / 86400) in
    let century = c.pair.ensures.number (date.year / 100) t.century.0 t.century.1 t.century.2 in
    let year = c.pair-2.ensures.number (date.year % 100) t.year.0 t.year.1 t.year.2 in
    let month = c.pair-3.ensures.number date.month t.month.0 t.month.1 t.month.2 in
    let day = c.pair-4.ensures.number date.day t.day.0 t.day.1 t.day.2 in
    let none : None ≡ Some (s / 86400) = c.in_err-day.ensures.found (s / 86400) t.few (omega (arith, century, year)) month day in
    absurd (cc)

pub returns-then-second-ge86400-clause-found : goal.returns-then-second-ge86400-clause-found
returns-then-second-ge86400-clause-found c s small is =
    let t : Spells c.args.text.now s = spells c.args.text.now s small is in
    let hours = c.pair-hours.ensures.number (s % 86400 / 3600) t.hours.0 t.hours.1 t.hours.2 in
    let minutes = c.pair-minutes.ensures.number (s % 86400 / 60 % 60) t.minutes.0 t.minutes.1 t.minutes.2 in
    let seconds = c.pair-5.ensures.number (s % 86400 % 60) t.seconds.0 t.seconds.1 t.seconds.2 in
    absurd (omega (arith, hours, minutes, seconds, c.if-second-ge86400.true))

pub returns-clause-found : goal.returns-clause-found
returns-clause-found c s small is =
    let t : Spells c.args.text.now s = spells c.args.text.now s small is in
    let date : Day = day_numbered (s / 86400) in
    let century = c.pair.ensures.number (date.year / 100) t.century.0 t.century.1 t.century.2 in
    let year = c.pair-2.ensures.number (date.year % 100) t.year.0 t.year.1 t.year.2 in
    let month = c.pair-3.ensures.number date.month t.month.0 t.month.1 t.month.2 in
    let day = c.pair-4.ensures.number date.day t.day.0 t.day.1 t.day.2 in
    let found : Some c.in_ok-day.day ≡ Some (s / 86400) = c.in_ok-day.ensures.found (s / 86400) t.few (omega (arith, century, year)) month day in
    let days : c.in_ok-day.day ≡ s / 86400 = cc in
    let hours = c.pair-hours.ensures.number (s % 86400 / 3600) t.hours.0 t.hours.1 t.hours.2 in
    let minutes = c.pair-minutes.ensures.number (s % 86400 / 60 % 60) t.minutes.0 t.minutes.1 t.minutes.2 in
    let seconds = c.pair-5.ensures.number (s % 86400 % 60) t.seconds.0 t.seconds.1 t.seconds.2 in
    ap (λ (k : ℕ). Some k) (omega (arith, days, hours, minutes, seconds))
