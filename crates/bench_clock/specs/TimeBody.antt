-- The body of a time packet (IRIG 106-17 Chapter 11, time data packets, Format 1; its layout is a profile of ours): a
-- first word of 32 bits, and then the digits of a time, in one of two forms.
use Rattle.std.specs.Prelude.{ℕ, zero, suc, ◌+◌, ◌*◌, ◌/◌, ◌%◌, ◌==◌, ◌&&◌, Bool, nat_lt, if◌then◌else◌, pos}
use Rattle.std.specs.Prelude.{List, [], ◌∷◌, length, get_or, set, Option, None, Some, is_some, option_map}
use Rattle.std.specs.Str.{bytes_eq}
use Rattle.jiff_core.specs.Calendar.{is_leap_year}
use Rattle.bench_clock.specs.Calendar.{Day, day_numbered}
use Rattle.bench_clock.specs.declared.told.PacketTime.{PacketTime}
use Rattle.bench_clock.specs.declared.told.PacketTime.TheVariants.{Utc, OfYear}

-- a number below 100 as binary coded decimals: the tens in bits 7 to 4
abbrev pub two_digits : ℕ → ℕ
two_digits n = n / 10 * 16 + n % 10

-- the form with a date, of a day and a second of it: time source 0 (bits 3 to 0), format 3 (bits 7 to 4), bit 8 a leap
-- year, bit 9 day and month; then hundredths, seconds, minutes, hours, day, month, and the year's last two and first
-- two digits
abbrev pub time_body : Day → ℕ → List ℕ
time_body d second =
    0x30 ∷ (if is_leap_year (pos d.year) then 3 else 2) ∷ 0 ∷ 0
    ∷ 0 ∷ two_digits (second % 60) ∷ two_digits (second / 60 % 60) ∷ two_digits (second / 3600)
    ∷ two_digits d.day ∷ two_digits d.month ∷ two_digits (d.year % 100) ∷ two_digits (d.year / 100) ∷ []

-- the body of a UTC second, which is counted from 1970-01-01T00:00:00
abbrev pub body_of : ℕ → List ℕ
body_of second = time_body (day_numbered (second / 86400)) (second % 86400)

-- the form with the day of the year, of a second that is counted from the begin of the year: bit 8 a leap year, bit 9
-- clear; then hundredths, seconds, minutes, hours, and the day, the first of January 1: two digits and the hundreds
abbrev pub year_body : Bool → ℕ → List ℕ
year_body leap second =
    0x30 ∷ (if leap then 1 else 0) ∷ 0 ∷ 0
    ∷ 0 ∷ two_digits (second % 60) ∷ two_digits (second / 60 % 60) ∷ two_digits (second % 86400 / 3600)
    ∷ two_digits ((second / 86400 + 1) % 100) ∷ (second / 86400 + 1) / 100 ∷ []

-- the seconds of a year
abbrev pub year_seconds : Bool → ℕ
year_seconds leap = if leap then 31622400 else 31536000

-- the last second below a limit that has this body
unfoldable pub second_below : (ℕ → List ℕ) → ℕ → List ℕ → Option ℕ
second_below body_at zero body = None
second_below body_at (suc n) body = if bytes_eq body (body_at n) then Some n else second_below body_at n body

-- the second of the years 1970 to 9999 that has this body
abbrev pub second_of : List ℕ → Option ℕ
second_of body = second_below body_of 253402300800 body

-- the second of a year that has this body
abbrev pub year_second_of : Bool → List ℕ → Option ℕ
year_second_of leap body = second_below (year_body leap) (year_seconds leap) body

-- time source and format (bits 7 to 0 of the first word) and hundredths are free: a body with those of above
abbrev pub settled : List ℕ → List ℕ
settled body = set (set body 0 0x30) 4 0

-- the hundredths of a second, 10 ms in bits 3 to 0 and 100 ms in bits 7 to 4, if both digits are at most nine
abbrev pub hundredths_in : ℕ → Option ℕ
hundredths_in digits = if nat_lt (digits / 16) 10 && nat_lt (digits % 16) 10 then Some (digits / 16 * 10 + digits % 16)
    else None

-- ticks of 0.1 µs
abbrev pub ticks_of : Option ℕ → Option ℕ → Option ℕ
ticks_of None second = None
ticks_of (Some hundredths) None = None
ticks_of (Some hundredths) (Some second) = Some (second * 10000000 + hundredths * 100000)

-- what a body tells by its length and its form: of the years 1970 to 9999, or of a year that it does not name
abbrev pub utc_in : List ℕ → Option ℕ
utc_in body = ticks_of (hundredths_in (get_or body 4 0)) (second_of (settled body))

abbrev pub is_leap : List ℕ → Bool
is_leap body = get_or body 1 0 == 1

abbrev pub year_time_in : List ℕ → Option ℕ
year_time_in body = ticks_of (hundredths_in (get_or body 4 0)) (year_second_of (is_leap body) (settled body))

abbrev pub packet_time : List ℕ → Option PacketTime
packet_time body =
    if length body == 12 then option_map (λ ticks. Utc ticks) (utc_in body)
    else (if length body == 10 then option_map (λ ticks. OfYear (is_leap body) ticks) (year_time_in body) else None)

-- it is the body of a time packet: one that tells a time
abbrev pub is_time_body : List ℕ → Bool
is_time_body body = is_some (packet_time body)
