-- When a line says that something is due (own choice): `NUMBER`, `TIME` or `SELECTOR nth K`; and at which messages a
-- fault is planned: `FIRST LAST STEP`, `SELECTOR FIRST LAST STEP` or `SELECTOR from TIME to TIME`.
use Rattle.std.specs.Prelude.{ℕ, Bool, false, ◌||◌, nat_le, if◌then◌else◌, List, [], ◌∷◌, Option, Some, None, codes}
use Rattle.std.specs.Result.{result_ok}
use Rattle.std.specs.Str.{bytes_eq}
use Rattle.text_lines.specs.Words.{Text, begins_with}
use Rattle.judge_rules.specs.Selectors.{selector_in, behind_selector}
use Rattle.judge_rules.specs.Times.{ticks_spelled}
use Rattle.judge_rules.specs.declared.rules.Selector.{Selector}
use Rattle.job_moments.specs.declared.moments.Moment.TheVariants.{Time, Nth}
use Rattle.job_moments.specs.declared.occasions.Turns.{Turns}
use Rattle.job_file.specs.Options.{◌>>=◌}
use Rattle.job_file.specs.Numbers.{within, number_within}
use Rattle.job_file.specs.Parts.{first, front}
use Rattle.job_file.specs.declared.spans.Span.{Span}
use Rattle.job_file.specs.declared.whens.When.{When}
use Rattle.job_file.specs.declared.whens.When.TheVariants as when
use Rattle.job_file.specs.declared.whens.Which.{Which}
use Rattle.job_file.specs.declared.whens.Which.TheVariants as which

-- a word with which a selector begins
abbrev pub names_selector : Text → Bool
names_selector w =
    bytes_eq w (codes "any") || bytes_eq w (codes "rx") || bytes_eq w (codes "tx") || bytes_eq w (codes "rt")
    || bytes_eq w (codes "mode") || bytes_eq w (codes "brx") || bytes_eq w (codes "brt") || bytes_eq w (codes "bmode")

abbrev pub is_selector : List Text → Bool
is_selector [] = false
is_selector (w ∷ ws) = names_selector w

-- what stands behind a word that has to be this one
unfoldable pub behind_word : Text → List Text → Option (List Text)
behind_word word ws = first ws >>= (λ a. if bytes_eq a.0 word then Some a.1 else None)

-- the words of a WHEN, whatever numbers they spell: one, or from those of a selector on, and the place behind `nth`
pub data WhenWords : Type 0 where
  by_word : Text → WhenWords
  by_command : List Text → Text → WhenWords

unfoldable pub when_words : List Text → Option (WhenWords × List Text)
when_words ws =
    if is_selector ws
    then (behind_word (codes "nth") (behind_selector ws) >>= (λ k. first k >>= (λ a. Some (by_command ws a.0, a.1))))
    else (first ws >>= (λ a. Some (by_word a.0, a.1)))

-- a time is at most 2^47 ticks
abbrev pub tick_of : ℕ → Option ℕ
tick_of ticks = within 0 140737488355328 ticks

unfoldable pub time_of : Text → Option ℕ
time_of w = ticks_spelled w >>= tick_of

-- a time, or else a number from low to high
abbrev pub time_or_number : ℕ → ℕ → Text → Option ℕ → Option When
time_or_number low high w (Some ticks) = tick_of ticks >>= (λ t. Some (when.Moment (Time t)))
time_or_number low high w None = number_within low high w >>= (λ n. Some (when.Number n))

unfoldable pub when_of : ℕ → ℕ → WhenWords → Option When
when_of low high (by_word w) = time_or_number low high w (ticks_spelled w)
when_of low high (by_command ws k) =
    result_ok (selector_in ws) >>=
    (λ selector. number_within 1 1000000 k >>= (λ place. Some (when.Moment (Nth selector place))))

-- the words that say which messages: the numbers of them or of their places, or two times, each perhaps behind the
-- words of a selector
pub data WhichWords : Type 0 where
  by_numbers : Text × Text × Text → WhichWords
  by_places : List Text → Text × Text × Text → WhichWords
  by_times : List Text → Text → Text → WhichWords

-- `from`, a word, `to` and a word, and what stands behind them
unfoldable pub window_words : List Text → Option ((Text × Text) × List Text)
window_words ws =
    behind_word (codes "from") ws >>= (λ f. first f >>= (λ a. behind_word (codes "to") a.1 >>= (λ t. first t >>=
    (λ b. Some ((a.0, b.0), b.1)))))

abbrev pub words_behind_selector : List Text → List Text → Option (WhichWords × List Text)
words_behind_selector ws behind =
    if begins_with (codes "from") behind
    then (window_words behind >>= (λ w. Some (by_times ws w.0.0 w.0.1, w.1)))
    else (front behind >>= (λ w. Some (by_places ws w.0, w.1)))

unfoldable pub which_words : List Text → Option (WhichWords × List Text)
which_words ws =
    if is_selector ws then words_behind_selector ws (behind_selector ws)
    else (front ws >>= (λ w. Some (by_numbers w.0, w.1)))

-- `FIRST LAST STEP`
unfoldable pub span_of : Text × Text × Text → Option Span
span_of w =
    number_within 1 1000000 w.0 >>=
    (λ low. number_within low 1000000 w.1 >>= (λ high. number_within 1 1000000 w.2 >>= (λ step.
    Some (record { first = low; last = high; step = step }))))

-- the first time is not behind the second
abbrev pub window_of : Selector → ℕ → ℕ → Option Which
window_of selector from to = if nat_le from to then Some (which.Window selector from to) else None

unfoldable pub which_of : WhichWords → Option Which
which_of (by_numbers n) = span_of n >>= (λ span. Some (which.Numbers span))
which_of (by_places ws n) =
    result_ok (selector_in ws) >>= (λ selector. span_of n >>= (λ span. Some (which.Places selector span)))
which_of (by_times ws from to) =
    result_ok (selector_in ws) >>=
    (λ selector. time_of from >>= (λ low. time_of to >>= (λ high. window_of selector low high)))

-- the turns of messages or places
abbrev pub turns_of : Span → Turns
turns_of s = record { first = s.first; last = s.last; step = s.step }
