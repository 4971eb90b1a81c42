use Rattle.std.proofs.Common.{◌≡◌, inl, inr, pos, w8, w16, to_z, arith}
use Rattle.std.proofs.lemmas.Bool.{false≢true}
use Rattle.std.proofs.lemmas.Int.{ints}
use Rattle.bench_clock.specs.Calendar.{day_numbered}
use Rattle.bench_clock.proofs.Days.{small_parts, number_is, is_date}
use Rattle.bench_clock.proofs.reading.day_of.Goals as goal

pub returns-then-month-gt12-clause-found : goal.returns-then-month-gt12-clause-found
returns-then-month-gt12-clause-found c n most year month day =
    let parts = small_parts n most in
    absurd (elim c.then-month-gt12.either [
      | inl late ↦ omega (arith, late, month, parts.1)
      | inr late ↦ omega (arith, late.1, day, parts.2)
    ])

pub returns-in-Ok-clause-found : goal.returns-in-Ok-clause-found
returns-in-Ok-clause-found c n most year month day =
    let is = c.in-Ok.ensures.value in
    let y : c.in-Ok.date.year ≡ pos (day_numbered n).year = omega (arith, ints, is.0, year, c.requires) in
    let m : c.in-Ok.date.month ≡ (day_numbered n).month = omega (arith, ints, is.1, month, c.if-month-gt12.false) in
    let d : c.in-Ok.date.day ≡ (day_numbered n).day = omega (arith, ints, is.2, day, c.if-day-gt31.false) in
    c.count_of.ensures.found n (number_is c.in-Ok.date n most y m d)

pub returns-in-Err-clause-found : goal.returns-in-Err-clause-found
returns-in-Err-clause-found c n most year month day =
    let y : to_z w16 c.args.year ≡ pos (day_numbered n).year = omega (arith, ints, year, c.requires) in
    let m : to_z w8 c.args.month ≡ pos (day_numbered n).month = omega (arith, ints, month, c.if-month-gt12.false) in
    let d : to_z w8 c.args.day ≡ pos (day_numbered n).day = omega (arith, ints, day, c.if-day-gt31.false) in
    absurd (false≢true (c.in-Err.ensures.succeeds.1 (rw (y, m, d) (is_date n most))))
