-- Numbers, times and rates as figures have them (own choice). Times are ticks of 0.1 µs.
use Rattle.std.specs.Prelude.{ℕ, ◌*◌, ◌/◌, ◌%◌, ◌-◌, ◌^◌, ◌==◌, false, nat_lt, if◌then◌else◌, [], ◌++◌, codes, decimal}
use Rattle.std.specs.Prelude.{Option, None, Some}
use Rattle.std.specs.Fmt.{format_spec, padded, padded_integral}
use Rattle.text_lines.specs.Words.{Text}
use Rattle.bench_clock.specs.Time.{Time}
use Rattle.bench_clock.specs.TimeText.{text_of}
use Rattle.ch11_reader.specs.Contents.{capped}

-- a number at the right end of a column of so many characters, and so a word
abbrev pub column : ℕ → ℕ → Text
column width number = padded_integral (format_spec 32 3 0 width (2 ^ 64 - 1)) false [] (decimal number)

abbrev pub word_column : ℕ → Text → Text
word_column width word = padded (format_spec 32 3 0 width (2 ^ 64 - 1)) word

-- a number of at least so many digits
abbrev pub digits_text : ℕ → ℕ → Text
digits_text width number = padded_integral (format_spec 32 0 4 width (2 ^ 64 - 1)) false [] (decimal number)

-- a number of tenths, as ticks are tenths of a µs; and one of hundredths
abbrev pub tenths_text : ℕ → Text
tenths_text number = decimal (number / 10) ++ (codes "." ++ decimal (number % 10))

abbrev pub hundredths_text : ℕ → Text
hundredths_text number = decimal (number / 100) ++ (codes "." ++ digits_text 2 (number % 100))

-- tenths with what stands in front of the point at the right end of a column
abbrev pub tenths_column : ℕ → ℕ → Text
tenths_column width number = column width (number / 10) ++ (codes "." ++ decimal (number % 10))

-- a time as µs, ms or s, by its size
unfoldable pub time_text : ℕ → Text
time_text ticks =
    if nat_lt ticks 10000 then decimal (ticks / 10) ++ (codes "." ++ (decimal (ticks % 10) ++ codes " us"))
    else if nat_lt ticks 10000000
    then decimal (ticks / 10000) ++ (codes "." ++ (digits_text 4 (ticks % 10000) ++ codes " ms"))
    else decimal (ticks / 10000000) ++ (codes "." ++ (digits_text 7 (ticks % 10000000) ++ codes " s"))

-- a time of day, and what stands in place of none
abbrev pub day_text : Text → Option Time → Text
day_text none None = none
day_text none (Some time) = text_of time

-- hundredths of messages a second, rounded down; none where no time passed
abbrev pub rate_of : ℕ → ℕ → Option ℕ
rate_of messages span = if span == 0 then None else Some (capped (messages * 100 * 10000000 / span))

-- none where the span is not known
abbrev pub rate_within : ℕ → Option ℕ → Option ℕ
rate_within messages None = None
rate_within messages (Some span) = rate_of messages span
