-- What `bench stat --signals` prints of the figures of signals (own choice): rows of comma-separated values behind an
-- empty line, or lines for people.
use Rattle.std.specs.Prelude.{ℕ, ◌-◌, ◌/◌, ◌%◌, ◌^◌, ◌==◌, Bool, false, if◌then◌else◌, List, [], ◌++◌, length}
use Rattle.std.specs.Prelude.{codes, decimal, slice_get, Option, None, Some}
use Rattle.std.specs.Fmt.{format_spec, padded, padded_integral}
use Rattle.std.specs.List.{flat_map}
use Rattle.text_lines.specs.Words.{Text}
use Rattle.signal_dictionary.specs.declared.signals.Kind.{Kind}
use Rattle.signal_dictionary.specs.declared.signals.Signal.{Signal}
use Rattle.signal_values.specs.Texts.{value_text}
use Rattle.bench_signals.specs.Figures.{Figures, Moment}

-- a number of at least seven digits
abbrev pub seven_digits : ℕ → Text
seven_digits number = padded_integral (format_spec 32 0 4 7 (2 ^ 64 - 1)) false [] (decimal number)

-- when a value was, in seconds with seven decimals, as ticks are 0.1 µs; `-` where that is not known
abbrev pub time_text : Option ℕ → Text
time_text None = codes "-"
time_text (Some ticks) = decimal (ticks / 10000000) ++ (codes "." ++ seven_digits (ticks % 10000000))

-- ---- rows of comma-separated values

abbrev pub columns_row : Text
columns_row =
    codes "\nsignal,channel,unit,messages,changes,least,least_s,greatest,greatest_s,first,first_s,last,last_s\n"

-- the signal, its channel, its unit, and how many messages and changes there are
abbrev pub front_fields : Signal → Figures → Text
front_fields s f = s.name.bytes.items ++ ((codes "," ++ (decimal f.channel ++ codes ","))
    ++ (s.unit.bytes.items ++ (codes "," ++ (decimal f.messages ++ (codes "," ++ decimal f.changes)))))

-- a value and when it was; both fields are empty where there is none
abbrev pub value_fields : Kind → Option Moment → Text
value_fields kind None = codes ",,"
value_fields kind (Some m) = codes "," ++ (value_text kind m.0 ++ (codes "," ++ time_text m.1))

unfoldable pub figure_row : Signal → Figures → Text
figure_row s f = front_fields s f ++ (value_fields s.kind f.least ++ (value_fields s.kind f.greatest
    ++ (value_fields s.kind (Some f.first) ++ (value_fields s.kind (Some f.last) ++ codes "\n"))))

-- ---- lines for people

-- a unit in brackets, nothing where there is none
abbrev pub unit_text : Text → Text
unit_text unit = if length unit == 0 then [] else codes " (" ++ (unit ++ codes ")")

abbrev pub head_line : Signal → Figures → Text
head_line s f = codes "  " ++ (s.name.bytes.items ++ (unit_text s.unit.bytes.items ++ (codes " on channel "
    ++ (decimal f.channel ++ (codes ": " ++ (decimal f.messages ++ (codes " messages, "
    ++ (decimal f.changes ++ codes " changes\n"))))))))

-- a word at the left end of a column of ten characters
abbrev pub label_text : Text → Text
label_text label = codes "    " ++ padded (format_spec 32 1 0 10 (2 ^ 64 - 1)) label

-- a value and when it was, no line where there is none
abbrev pub value_line : Kind → Text → Option Moment → Text
value_line kind label None = []
value_line kind label (Some m) =
    label_text label ++ (value_text kind m.0 ++ (codes " at " ++ (time_text m.1 ++ codes "\n")))

unfoldable pub figure_lines : Signal → Figures → Text
figure_lines s f = head_line s f ++ (value_line s.kind (codes "least") f.least
    ++ (value_line s.kind (codes "greatest") f.greatest ++ (value_line s.kind (codes "first") (Some f.first)
    ++ value_line s.kind (codes "last") (Some f.last))))

-- ---- all figures

abbrev pub head_of : Bool → Text
head_of rows = if rows then columns_row else codes "signals\n"

abbrev pub signal_text : Bool → Figures → Option Signal → Text
signal_text rows f None = []
signal_text rows f (Some s) = if rows then figure_row s f else figure_lines s f

-- those of a signal, which stands at its place in the dictionary
abbrev pub figure_text : Bool → List Signal → Figures → Text
figure_text rows signals f = signal_text rows f (slice_get signals f.signal)

unfoldable pub figures_text : Bool → List Signal → List Figures → Text
figures_text rows signals fs = head_of rows ++ flat_map (figure_text rows signals) fs
