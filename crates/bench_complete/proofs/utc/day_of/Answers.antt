use Rattle.std.proofs.Common.{◌≡◌, pos, w8, w16, to_z, arith}
use Rattle.std.proofs.lemmas.Bool.{false≢true}
use Rattle.std.proofs.lemmas.Int.{ints}
use Rattle.bench_clock.specs.Calendar.{day_numbered}
use Rattle.bench_clock.proofs.Days.{small_parts, number_is, is_date}
use Rattle.bench_complete.proofs.utc.day_of.Goals as goal
use Rattle.bench_complete.proofs.utc.day_of.Goals.{then-year-gt9999-via-then-year-gt9999, then-year-gt9999-via-else-year-gt9999+then-month-gt12, then-year-gt9999-via-else-year-gt9999+else-month-gt12+then-day-gt31}

pub returns-then-year-gt9999-clause-found : goal.returns-then-year-gt9999-clause-found
returns-then-year-gt9999-clause-found c n few year month day =
    let parts = small_parts n (omega (arith, few)) in
    absurd (elim c.then-year-gt9999.branch [
      | then-year-gt9999-via-then-year-gt9999 w ↦ omega (arith, w.if-year-gt9999.true, year, parts.0)
      | then-year-gt9999-via-else-year-gt9999+then-month-gt12 w ↦ omega (arith, w.if-month-gt12.true, month, parts.1)
      | then-year-gt9999-via-else-year-gt9999+else-month-gt12+then-day-gt31 w ↦ omega (arith, w.if-day-gt31.true, day, parts.2)
    ])

pub returns-in-Ok-clause-found : goal.returns-in-Ok-clause-found
returns-in-Ok-clause-found c n few year month day =
    let is = c.in-Ok.ensures.value in
    let y : c.in-Ok.date.year ≡ pos (day_numbered n).year = omega (arith, ints, is.0, year, c.if-year-gt9999.false) in
    let m : c.in-Ok.date.month ≡ (day_numbered n).month = omega (arith, ints, is.1, month, c.if-month-gt12.false) in
    let d : c.in-Ok.date.day ≡ (day_numbered n).day = omega (arith, ints, is.2, day, c.if-day-gt31.false) in
    c.count_of.ensures.found n few (number_is c.in-Ok.date n (omega (arith, few)) y m d)

pub returns-in-Err-clause-found : goal.returns-in-Err-clause-found
returns-in-Err-clause-found c n few year month day =
    let y : to_z w16 c.args.year ≡ pos (day_numbered n).year = omega (arith, ints, year, c.if-year-gt9999.false) in
    let m : to_z w8 c.args.month ≡ pos (day_numbered n).month = omega (arith, ints, month, c.if-month-gt12.false) in
    let d : to_z w8 c.args.day ≡ pos (day_numbered n).day = omega (arith, ints, day, c.if-day-gt31.false) in
    absurd (false≢true (c.in-Err.ensures.succeeds.1 (rw (y, m, d) (is_date n (omega (arith, few))))))
