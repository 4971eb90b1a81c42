-- The days from 1 January 1970 on are those of the kit's calendar.
use Rattle.std.proofs.Common.{◌≡◌, ℕ, zero, suc, ◌+◌, ◌<◌, ◌≤◌, Bool, true, false, cond, ltb, inl, inr, ℤ, pos, refl, sym, ap, ◌∙◌, arith}
use Rattle.std.proofs.lemmas.Bool.{ltb-true, ltb-false, cases_lt}
use Rattle.jiff_core.specs.declared.civil.date.Date.{Date}
use Rattle.jiff_core.specs.Calendar.{IsCivilDate, IsDate, days_in_month, days_from_civil}
use Rattle.jiff_core.specs.Date.{epoch_day}
use Rattle.jiff_core.proofs.SignedLemmas.{signed_arith}
use Rattle.jiff_core.proofs.CalendarLemmas.{days_in_month_bounds}
use Rattle.jiff_core.proofs.DateLemmas.{days_from_civil-day, days_from_civil-next_month, days_from_civil-next_year, days_from_civil-max, epoch_day_injective}
use Rattle.jiff_core.proofs.StandardFacts.{known_days}
use Rattle.bench_clock.specs.Calendar.{Day, day_numbered}

pub record IsNumbered (d : Day) (n : ℕ) : Type 0 where
  pub civil : IsCivilDate (pos d.year) d.month d.day
  pub number : days_from_civil (pos d.year) d.month d.day ≡ pos n

next_day : (y m d n : ℕ) → IsCivilDate (pos y) m d → days_from_civil (pos y) m d ≡ pos n → d < days_in_month (pos y) m → days_from_civil (pos y) m (d + 1) ≡ pos (suc n)
next_day y m d n civil is more =
    let low : 1 ≤ d = civil.2.0 in
    let step = days_from_civil-day (pos y) m d (d + 1) low (omega arith) in
    omega (arith, signed_arith, step, is)

last_day : (y m d n : ℕ) → IsCivilDate (pos y) m d → days_from_civil (pos y) m d ≡ pos n → days_in_month (pos y) m ≤ d → days_from_civil (pos y) (m + 1) 1 ≡ pos (suc n)
last_day y m d n civil is last =
    let high : d ≤ days_in_month (pos y) m = civil.2.1 in
    let all : d ≡ days_in_month (pos y) m = omega (arith, high, last) in
    let step = days_from_civil-next_month (pos y) m d civil.1.0 all in
    omega (arith, signed_arith, step, is)

december : (y m d : ℕ) → IsCivilDate (pos y) m d → days_in_month (pos y) m ≤ d → 12 ≤ m → (m ≡ 12) × (d ≡ 31)
december y m d civil last late =
    let twelve : m ≡ 12 = omega (arith, civil.1.1, late) in
    let days : days_in_month (pos y) m ≡ 31 = ap (days_in_month (pos y)) twelve in
    (twelve, omega (arith, civil.2.1, last, days))

next_year : (y m d n : ℕ) → IsCivilDate (pos y) m d → days_from_civil (pos y) m d ≡ pos n → (m ≡ 12) × (d ≡ 31) → days_from_civil (pos (y + 1)) 1 1 ≡ pos (suc n)
next_year y m d n civil is end =
    let step = days_from_civil-next_year (pos y) (pos (y + 1)) (omega (arith, signed_arith)) (omega (arith, signed_arith)) in
    let here : days_from_civil (pos y) 12 31 ≡ pos n = ap (λ (k : ℕ). days_from_civil (pos y) k 31) (sym end.0) ∙ ap (days_from_civil (pos y) m) (sym end.1) ∙ is in
    omega (arith, signed_arith, step, here)

-- the last year of the kit's calendar is not over
early : (y m d n : ℕ) → IsCivilDate (pos y) m d → days_from_civil (pos y) m d ≡ pos n → (m ≡ 12) × (d ≡ 31) → suc n ≤ 2932896 → y < 9999
early y m d n civil is end most = elim (cases_lt y 9999) [
  | inl lt ↦ lt
  | inr le ↦
      let year : y ≡ 9999 = omega (arith, signed_arith, civil.0.1, le) in
      let here : days_from_civil (pos 9999) 12 31 ≡ pos n = ap (λ (k : ℕ). days_from_civil (pos k) 12 31) (sym year) ∙ ap (λ (k : ℕ). days_from_civil (pos y) k 31) (sym end.0) ∙ ap (days_from_civil (pos y) m) (sym end.1) ∙ is in
      absurd (omega (arith, signed_arith, here, days_from_civil-max, most))
]

after : (d : Day) (n : ℕ) → IsNumbered d n → suc n ≤ 2932896 → (more months : Bool) → ltb d.day (days_in_month (pos d.year) d.month) ≡ more → ltb d.month 12 ≡ months
    → IsNumbered (cond more (record { year = d.year; month = d.month; day = d.day + 1 }) (cond months (record { year = d.year; month = d.month + 1; day = 1 }) (record { year = d.year + 1; month = 1; day = 1 }))) (suc n)
after d n i most true months more early_month =
    let lt = ltb-true d.day (days_in_month (pos d.year) d.month) more in
    record { civil = (i.civil.0, i.civil.1, (omega arith, omega (arith, lt))); number = next_day d.year d.month d.day n i.civil i.number lt }
after d n i most false true more early_month =
    let last = ltb-false d.day (days_in_month (pos d.year) d.month) more in
    let lt = ltb-true d.month 12 early_month in
    record {
      civil = (i.civil.0, (omega arith, omega (arith, lt)), (omega arith, omega (arith, days_in_month_bounds (pos d.year) (d.month + 1))));
      number = last_day d.year d.month d.day n i.civil i.number last;
    }
after d n i most false false more early_month =
    let last = ltb-false d.day (days_in_month (pos d.year) d.month) more in
    let late = ltb-false d.month 12 early_month in
    let end = december d.year d.month d.day i.civil last late in
    let below = early d.year d.month d.day n i.civil i.number end most in
    record {
      civil = ((omega (arith, signed_arith), omega (arith, signed_arith, below)), (omega arith, omega arith), (omega arith, omega (arith, days_in_month_bounds (pos (d.year + 1)) 1)));
      number = next_year d.year d.month d.day n i.civil i.number end;
    }

pub numbered : (n : ℕ) → n ≤ 2932896 → IsNumbered (day_numbered n) n
unfolding day_numbered
numbered zero most = record { civil = ((omega (arith, signed_arith), omega (arith, signed_arith)), (omega arith, omega arith), (omega arith, omega (arith, days_in_month_bounds (pos 1970) 1))); number = known_days.0 }
numbered (suc n) most = after (day_numbered n) n (numbered n (omega (arith, most))) most _ _ refl refl

same_date : (date : Date) (d : Day) (n : ℕ) → IsNumbered d n → epoch_day date ≡ pos n → (date.year ≡ pos d.year) × (date.month ≡ d.month) × (date.day ≡ d.day)
same_date date d n i is =
    let other : Date = record { year = pos d.year; month = d.month; day = d.day; year_in = i.civil.0; month_in = i.civil.1; day_in = i.civil.2 } in
    epoch_day_injective date other (is ∙ sym i.number)

-- the date of a day number
pub date_is : (date : Date) (n : ℕ) → n ≤ 2932896 → epoch_day date ≡ pos n → (date.year ≡ pos (day_numbered n).year) × (date.month ≡ (day_numbered n).month) × (date.day ≡ (day_numbered n).day)
date_is date n most is = same_date date (day_numbered n) n (numbered n most) is

-- its year has four digits at most, and each other part two
pub small_parts : (n : ℕ) → n ≤ 2932896 → ((day_numbered n).year ≤ 9999) × ((day_numbered n).month ≤ 12) × ((day_numbered n).day ≤ 31)
small_parts n most =
    let i = numbered n most in
    (omega (arith, signed_arith, i.civil.0.1), i.civil.1.1, omega (arith, i.civil.2.1, days_in_month_bounds (pos (day_numbered n).year) (day_numbered n).month))

-- a date with the parts of a numbered day has its number
pub number_is : (date : Date) (n : ℕ) → n ≤ 2932896 → date.year ≡ pos (day_numbered n).year → date.month ≡ (day_numbered n).month → date.day ≡ (day_numbered n).day → epoch_day date ≡ pos n
number_is date n most year month day =
    ap (λ (k : ℤ). days_from_civil k date.month date.day) year
    ∙ ap (λ (k : ℕ). days_from_civil (pos (day_numbered n).year) k date.day) month
    ∙ ap (days_from_civil (pos (day_numbered n).year) (day_numbered n).month) day
    ∙ (numbered n most).number

-- days of the same date have the same number
pub same_day : (m n : ℕ) → m ≤ 2932896 → n ≤ 2932896 → (day_numbered m).year ≡ (day_numbered n).year → (day_numbered m).month ≡ (day_numbered n).month → (day_numbered m).day ≡ (day_numbered n).day → m ≡ n
same_day m n few most year month day =
    let same : days_from_civil (pos (day_numbered m).year) (day_numbered m).month (day_numbered m).day ≡ days_from_civil (pos (day_numbered n).year) (day_numbered n).month (day_numbered n).day =
    ap (λ (k : ℕ). days_from_civil (pos k) (day_numbered m).month (day_numbered m).day) year
    ∙ ap (λ (k : ℕ). days_from_civil (pos (day_numbered n).year) k (day_numbered m).day) month
    ∙ ap (days_from_civil (pos (day_numbered n).year) (day_numbered n).month) day in
    let numbers : pos m ≡ pos n = sym (numbered m few).number ∙ same ∙ (numbered n most).number in
    omega (arith, signed_arith, numbers)

-- the calendar has each numbered day
pub is_date : (n : ℕ) → n ≤ 2932896 → IsDate (pos (day_numbered n).year) (pos (day_numbered n).month) (pos (day_numbered n).day)
is_date n most =
    let civil = (numbered n most).civil in (
      civil.0,
      (omega (arith, signed_arith, civil.1.0), omega (arith, signed_arith, civil.1.1)),
      (omega (arith, signed_arith, civil.2.0), omega (arith, signed_arith, civil.2.1)),
    )
