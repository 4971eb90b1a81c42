-- The bodies of time packets are read as they are written.
use Rattle.std.proofs.Common.{◌≡◌, ℕ, zero, suc, ◌+◌, ◌/◌, ◌%◌, ◌<◌, ◌≤◌, Bool, true, false, cond, List, get_or, inl, inr, refl, sym, ap, ◌∙◌, arith}
use Rattle.std.specs.Prelude.{Option, None, Some}
use Rattle.std.specs.Str.{bytes_eq}
use Rattle.std.proofs.lemmas.Bool.{cases_lt}
use Rattle.std.proofs.lemmas.Slice.Eq.{bytes_eq-Decides}
use Rattle.bench_clock.specs.Calendar.{day_numbered}
use Rattle.bench_clock.specs.TimeBody.{two_digits, body_of, year_body, year_seconds, second_below}
use Rattle.bench_clock.proofs.Days.{small_parts, same_day}

same_number : (m n : ℕ) → m < 100 → n < 100 → two_digits m ≡ two_digits n → m ≡ n
same_number m n few most same = omega (arith, few, most, same)

-- the byte at a place of equal bodies
same_byte : (a b : ℕ) → body_of a ≡ body_of b → (k : ℕ) → get_or (body_of a) k 0 ≡ get_or (body_of b) k 0
same_byte a b same k = ap (λ (xs : List ℕ). get_or xs k 0) same

same_second : (a b : ℕ) → a < 86400 → b < 86400 → two_digits (a % 60) ≡ two_digits (b % 60) → two_digits (a / 60 % 60) ≡ two_digits (b / 60 % 60) → two_digits (a / 3600) ≡ two_digits (b / 3600) → a ≡ b
same_second a b few most seconds minutes hours =
    let second = same_number (a % 60) (b % 60) (omega arith) (omega arith) seconds in
    let minute = same_number (a / 60 % 60) (b / 60 % 60) (omega arith) (omega arith) minutes in
    let hour = same_number (a / 3600) (b / 3600) (omega (arith, few)) (omega (arith, most)) hours in
    omega (arith, second, minute, hour)

same_year : (a b : ℕ) → a ≤ 9999 → b ≤ 9999 → two_digits (a % 100) ≡ two_digits (b % 100) → two_digits (a / 100) ≡ two_digits (b / 100) → a ≡ b
same_year a b few most last first =
    let back = same_number (a % 100) (b % 100) (omega arith) (omega arith) last in
    let front = same_number (a / 100) (b / 100) (omega (arith, few)) (omega (arith, most)) first in
    omega (arith, back, front)

numbered_alike : (m n : ℕ) → m ≤ 2932896 → n ≤ 2932896
    → two_digits (day_numbered m).day ≡ two_digits (day_numbered n).day → two_digits (day_numbered m).month ≡ two_digits (day_numbered n).month
    → two_digits ((day_numbered m).year % 100) ≡ two_digits ((day_numbered n).year % 100) → two_digits ((day_numbered m).year / 100) ≡ two_digits ((day_numbered n).year / 100) → m ≡ n
numbered_alike m n few most days months years centuries =
    let a = small_parts m few in
    let b = small_parts n most in
    same_day m n few most
    (same_year (day_numbered m).year (day_numbered n).year a.0 b.0 years centuries)
    (same_number (day_numbered m).month (day_numbered n).month (omega (arith, a.1)) (omega (arith, b.1)) months)
    (same_number (day_numbered m).day (day_numbered n).day (omega (arith, a.2)) (omega (arith, b.2)) days)

-- no two seconds have the same body
pub same_body : (a b : ℕ) → a < 253402300800 → b < 253402300800 → body_of a ≡ body_of b → a ≡ b
same_body a b few most same =
    let byte = same_byte a b same in
    let day = numbered_alike (a / 86400) (b / 86400) (omega (arith, few)) (omega (arith, most)) (byte 8) (byte 9) (byte 10) (byte 11) in
    let second = same_second (a % 86400) (b % 86400) (omega arith) (omega arith) (byte 5) (byte 6) (byte 7) in
    omega (arith, day, second)

-- ---- the body of a second of a year

pub same_year_body : (leap : Bool) (a b : ℕ) → a < 31622400 → b < 31622400 → year_body leap a ≡ year_body leap b → a ≡ b
same_year_body leap a b few most same =
    let byte : (k : ℕ) → get_or (year_body leap a) k 0 ≡ get_or (year_body leap b) k 0 = λ k. ap (λ (xs : List ℕ). get_or xs k 0) same in
    let second = same_number (a % 60) (b % 60) (omega arith) (omega arith) (byte 5) in
    let minute = same_number (a / 60 % 60) (b / 60 % 60) (omega arith) (omega arith) (byte 6) in
    let hour = same_number (a % 86400 / 3600) (b % 86400 / 3600) (omega arith) (omega arith) (byte 7) in
    let day = same_number ((a / 86400 + 1) % 100) ((b / 86400 + 1) % 100) (omega arith) (omega arith) (byte 8) in
    let hundreds : (a / 86400 + 1) / 100 ≡ (b / 86400 + 1) / 100 = byte 9 in
    let days : a / 86400 ≡ b / 86400 = omega (arith, day, hundreds) in
    omega (arith, days, second, minute, hour)

pub year_short : (leap : Bool) → year_seconds leap ≤ 31622400
year_short true = omega arith
year_short false = omega arith

-- ---- the second of a body

passed_over : (n : ℕ) (body other : List ℕ) (rest : Option ℕ) → (body ≡ other → ⊥) → (same : Bool) → bytes_eq body other ≡ same → cond same (Some n) rest ≡ rest
passed_over n body other rest differs true is = absurd (differs ((bytes_eq-Decides body other).0 is))
passed_over n body other rest differs false is = refl

hit : (n : ℕ) (body other : List ℕ) (rest : Option ℕ) → body ≡ other → cond (bytes_eq body other) (Some n) rest ≡ Some n
hit n body other rest is = rw ((bytes_eq-Decides body other).1 is) refl

-- bytes that are the body of no second
pub no_second : (f : ℕ → List ℕ) (n : ℕ) (body : List ℕ) → ((t : ℕ) → t < n → body ≡ f t → ⊥) → second_below f n body ≡ None
unfolding second_below
no_second f zero body none = refl
no_second f (suc n) body none =
    passed_over n body (f n) (second_below f n body) (none n (omega arith)) _ refl ∙ no_second f n body (λ t lt. none t (omega (arith, lt)))

-- no two seconds below a limit have the same body
abbrev pub AreApart : (ℕ → List ℕ) → ℕ → Type 0
AreApart f limit = (a b : ℕ) → a < limit → b < limit → f a ≡ f b → a ≡ b

-- the body of a second
pub one_second : (f : ℕ → List ℕ) (limit : ℕ) → AreApart f limit → (n t : ℕ) (body : List ℕ) → n ≤ limit → t < n → body ≡ f t → second_below f n body ≡ Some t
unfolding second_below
one_second f limit apart zero t body most lt is = absurd (omega (arith, lt))
one_second f limit apart (suc n) t body most lt is = elim (cases_lt t n) [
  | inl less ↦
      let other : body ≡ f n → ⊥ = λ same. absurd (omega (arith, less, apart n t (omega (arith, most)) (omega (arith, most, less)) (sym same ∙ is))) in
      passed_over n body (f n) (second_below f n body) other _ refl ∙ one_second f limit apart n t body (omega (arith, most)) less is
  | inr rest ↦
      let last : t ≡ n = omega (arith, lt, rest) in
      hit n body (f n) (second_below f n body) (is ∙ ap f last) ∙ ap (λ (k : ℕ). Some k) (sym last)
]

pub year_apart : (leap : Bool) → AreApart (year_body leap) (year_seconds leap)
year_apart leap a b few most same =
    let short = year_short leap in
    same_year_body leap a b (omega (arith, few, short)) (omega (arith, most, short)) same
