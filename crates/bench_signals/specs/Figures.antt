-- The figures of a signal in a channel (own choice), over the selected messages that have it; messages and values stand
-- newest first. Counts go as far as 64 bits count them.
use Rattle.std.specs.Prelude.{ℕ, zero, suc, ◌+◌, ◌==◌, Bool, true, false, not, ◌&&◌, if◌then◌else◌, ℤ, int_le}
use Rattle.std.specs.Prelude.{List, [], ◌∷◌, ◌++◌, length, reverse, Option, Some, None, option_map}
use Rattle.std.specs.Str.{bytes_eq}
use Rattle.ch11_layout.specs.Stamps.{Recorded, time_of}
use Rattle.ch11_reader.specs.Contents.{capped}
use Rattle.ch11_reader.specs.Recording.{Found}
use Rattle.signal_dictionary.specs.declared.signals.Kind.{Kind}
use Rattle.signal_dictionary.specs.declared.signals.Signal.{Signal}
use Rattle.signal_values.specs.Readings.{Value, nothing, number, named, value_of}
use Rattle.signal_values.specs.Texts.{value_text}
use Rattle.bench_select.specs.Selecting.{selects}
use Rattle.bench_select.specs.Signals.{value_in}
use Rattle.bench_select.specs.Viewed.{Viewed, viewed_in}
use Rattle.bench_select.specs.declared.selection.Selection.{Selection}
use Rattle.bench_signals.specs.declared.figures.SignalFigures.{SignalFigures}
use Rattle.bench_signals.specs.declared.figures.Told.{Told}

-- a value, and when it was, in ticks of 0.1 µs where that is known
abbrev pub Moment : Type 0
Moment = Value × Option ℕ

-- that of a signal in a message of a channel
abbrev pub moment_at : Signal → ℕ → Recorded → Option Moment
moment_at s channel m = option_map (λ (v : Value). (v, time_of m)) (value_in s channel m)

-- those of a signal in the selected messages of a channel
abbrev pub moment_in : Selection → Signal → ℕ → List Viewed → Viewed → Option Moment
moment_in selection s channel earlier h =
    if (h.0 == channel) && selects selection (length earlier + 1) h.0 h.1 then moment_at s h.0 h.1 else None

abbrev pub and_moment : Option Moment → List Moment → List Moment
and_moment None earlier = earlier
and_moment (Some m) earlier = m ∷ earlier

abbrev pub moments_of : Selection → Signal → ℕ → List Viewed → List Moment
moments_of selection s channel [] = []
moments_of selection s channel (h ∷ earlier) =
    and_moment (moment_in selection s channel earlier h) (moments_of selection s channel earlier)

-- a value that is told otherwise than the one before
abbrev pub is_change : Kind → Moment → Moment → Bool
is_change kind before m = not (bytes_eq (value_text kind before.0) (value_text kind m.0))

abbrev pub one_if : Bool → ℕ
one_if b = if b then 1 else 0

abbrev pub changed_from : Kind → List Moment → Moment → ℕ
changed_from kind [] m = 0
changed_from kind (before ∷ earlier) m = one_if (is_change kind before m)

abbrev pub change_count : Kind → List Moment → ℕ
change_count kind [] = 0
change_count kind (m ∷ earlier) = changed_from kind earlier m + change_count kind earlier

-- a name is no number, and where there is no value there is none
abbrev pub number_of : Value → Option ℤ
number_of nothing = None
number_of (number z) = Some z
number_of (named n) = None

abbrev pub is_number : Option ℤ → Bool
is_number None = false
is_number (Some z) = true

abbrev pub is_at_most : Option ℤ → Option ℤ → Bool
is_at_most None other = false
is_at_most (Some x) None = false
is_at_most (Some x) (Some y) = int_le x y

-- the least and the greatest number, the first of those that are equal
abbrev pub lesser_by : Option Moment → Moment → Option Moment
lesser_by None m = Some m
lesser_by (Some least) m = if is_at_most (number_of least.0) (number_of m.0) then Some least else Some m

abbrev pub lesser : Option Moment → Moment → Option Moment
lesser least m = if is_number (number_of m.0) then lesser_by least m else least

abbrev pub least_of : List Moment → Option Moment
least_of [] = None
least_of (m ∷ earlier) = lesser (least_of earlier) m

abbrev pub greater_by : Option Moment → Moment → Option Moment
greater_by None m = Some m
greater_by (Some greatest) m =
    if is_at_most (number_of m.0) (number_of greatest.0) then Some greatest else Some m

abbrev pub greater : Option Moment → Moment → Option Moment
greater greatest m = if is_number (number_of m.0) then greater_by greatest m else greatest

abbrev pub greatest_of : List Moment → Option Moment
greatest_of [] = None
greatest_of (m ∷ earlier) = greater (greatest_of earlier) m

abbrev pub oldest : Moment → List Moment → Moment
oldest m [] = m
oldest m (before ∷ earlier) = oldest before earlier

pub record Figures : Type 0 where
  pub signal : ℕ
  pub channel : ℕ
  pub messages : ℕ
  pub changes : ℕ
  pub least : Option Moment
  pub greatest : Option Moment
  pub first : Moment
  pub last : Moment

-- those of the signal at a place of the dictionary in a channel, of whose kind these are the values; none where there
-- are no values
abbrev pub figures_of : ℕ → ℕ → Kind → List Moment → Option Figures
figures_of signal channel kind [] = None
figures_of signal channel kind (m ∷ earlier) = Some (record {
  signal = signal;
  channel = channel;
  messages = capped (length (m ∷ earlier));
  changes = capped (change_count kind (m ∷ earlier));
  least = least_of (m ∷ earlier);
  greatest = greatest_of (m ∷ earlier);
  first = oldest m earlier;
  last = m;
})

abbrev pub and_figures : List Figures → Option Figures → List Figures
and_figures others None = others
and_figures others (Some f) = others ++ f ∷ []

-- those of a signal in the channels below one, by their numbers
unfoldable pub figures_below : Selection → List Viewed → ℕ → Signal → ℕ → List Figures
figures_below selection history i s zero = []
figures_below selection history i s (suc channel) =
    and_figures (figures_below selection history i s channel)
    (figures_of i channel s.kind (moments_of selection s channel history))

-- those of the signals from a place of the dictionary on
abbrev pub figures_from : Selection → List Viewed → ℕ → List Signal → List Figures
figures_from selection history i [] = []
figures_from selection history i (s ∷ signals) =
    figures_below selection history i s 65536 ++ figures_from selection history (i + 1) signals

-- those of a whole recording
abbrev pub figures_in : Selection → List Signal → List Found → List Figures
figures_in selection signals ps = figures_from selection (reverse (viewed_in ps)) 0 signals

-- what figures of the program say
abbrev pub moment_of : Told → Moment
moment_of t = (value_of t.value, t.time)

abbrev pub said_by : SignalFigures → Figures
said_by f = record {
  signal = f.signal;
  channel = f.channel;
  messages = f.messages;
  changes = f.changes;
  least = option_map moment_of f.least;
  greatest = option_map moment_of f.greatest;
  first = moment_of f.first;
  last = moment_of f.last;
}
