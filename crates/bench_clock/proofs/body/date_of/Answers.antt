use Rattle.std.proofs.Common.{◌≡◌, pos, arith}
use Rattle.std.proofs.lemmas.Int.{ints}
use Rattle.jiff_core.specs.Date.{epoch_day}
use Rattle.bench_clock.proofs.Days.{date_is}
use Rattle.bench_clock.proofs.body.date_of.Goals as goal

pub returns-clause-year : goal.returns-clause-year
returns-clause-year c =
    let found = rw c.unwrap.ensures at c.from_unix_epoch_day.ensures.value in
    let number : epoch_day c.unwrap.result ≡ pos c.args.day = omega (arith, ints, found, c.requires) in
    (date_is c.unwrap.result c.args.day c.requires number).0

pub returns-clause-month : goal.returns-clause-month
returns-clause-month c =
    let found = rw c.unwrap.ensures at c.from_unix_epoch_day.ensures.value in
    let number : epoch_day c.unwrap.result ≡ pos c.args.day = omega (arith, ints, found, c.requires) in
    (date_is c.unwrap.result c.args.day c.requires number).1

pub returns-clause-day : goal.returns-clause-day
returns-clause-day c =
    let found = rw c.unwrap.ensures at c.from_unix_epoch_day.ensures.value in
    let number : epoch_day c.unwrap.result ≡ pos c.args.day = omega (arith, ints, found, c.requires) in
    (date_is c.unwrap.result c.args.day c.requires number).2
