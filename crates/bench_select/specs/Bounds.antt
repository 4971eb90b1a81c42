-- A bound of a selection as it is written (own choice): the number of a message, as `7`, or a time with its unit, as
-- `1.2s`, `350ms` or `12us`, in ticks of 0.1 µs.
use Rattle.std.specs.Prelude.{ℕ, ◌==◌, if◌then◌else◌, Option, Some, None}
use Rattle.numerals.specs.Numerals.{spelled}
use Rattle.text_lines.specs.Words.{Text}
use Rattle.judge_rules.specs.Times.{ticks_spelled}
use Rattle.bench_select.specs.declared.bounds.Bound.{Bound}
use Rattle.bench_select.specs.declared.bounds.Bound.TheVariants.{Number, Time}

-- messages are counted from 1
abbrev pub counted : Option ℕ → Option Bound
counted None = None
counted (Some n) = if n == 0 then None else Some (Number n)

-- a time, where there is one, or else a number
abbrev pub time_or : Option ℕ → Option Bound → Option Bound
time_or None number = number
time_or (Some ticks) number = Some (Time ticks)

unfoldable pub bound_of : Text → Option Bound
bound_of text = time_or (ticks_spelled text) (counted (spelled 10 1 10 text))
