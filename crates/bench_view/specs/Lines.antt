-- A message as a line of a page (own choice): its number in the file, its channel, its number there, its stamp, then
-- its block status word, its gap times word and its bus words, and the values of signals that it has, each with the
-- place of the signal in the dictionary, counted from 0.
use Rattle.std.specs.Prelude.{ℕ, zero, suc, ◌+◌, List, [], ◌∷◌, ◌++◌, Option, Some, None}
use Rattle.std.specs.List.{flat_map}
use Rattle.ch11_layout.specs.Layouts.{size_of, word_of}
use Rattle.ch11_layout.specs.Stamps.{Recorded}
use Rattle.ch11_layout.specs.declared.stamps.StampKind.{StampKind}
use Rattle.ch11_layout.specs.declared.stamps.StampKind.TheVariants.{Counter, TimeOfDay, Unknown}
use Rattle.signal_dictionary.specs.declared.signals.Signal.{Signal}
use Rattle.bench_decode.specs.ByTime.{Told}
use Rattle.bench_signals.specs.Values.{text_in}
use Rattle.bench_view.specs.Letters.{number_text, word_text}

-- a number and a space
abbrev pub spaced : ℕ → List ℕ
spaced value = number_text value ++ 32 ∷ []

abbrev pub place_text : ℕ → ℕ → ℕ → List ℕ
place_text number channel in_channel = spaced number ++ (spaced channel ++ spaced in_channel)

-- a stamp in ticks of 0.1 µs, behind @ where it is a time of day; - where no time is known
abbrev pub stamp_by : StampKind → ℕ → List ℕ
stamp_by Counter ticks = spaced ticks
stamp_by TimeOfDay ticks = 64 ∷ spaced ticks
stamp_by Unknown ticks = 45 ∷ 32 ∷ []

-- the first bus words, so many of them
unfoldable pub words_text : ℕ → Recorded → List ℕ
words_text zero m = []
words_text (suc count) m = words_text count m ++ word_text (word_of m.bytes count)

abbrev pub body_text : Recorded → List ℕ
body_text m = word_text m.block ++ (word_text m.gaps ++ words_text (size_of m) m)

-- the value of the signal at a place, if the message has it
abbrev pub value_text : ℕ → Option (List ℕ) → List ℕ
value_text index None = []
value_text index (Some text) = 32 ∷ (number_text index ++ 61 ∷ text)

-- those of signals that stand from a place on
abbrev pub values_text : List Signal → ℕ → ℕ → Recorded → List ℕ
values_text [] index channel m = []
values_text (s ∷ signals) index channel m =
    value_text index (text_in s channel m) ++ values_text signals (index + 1) channel m

abbrev pub line_text : List Signal → Told → List ℕ
line_text signals t =
    place_text t.number t.channel t.in_channel
    ++ (stamp_by t.message.kind t.message.stamp
    ++ (body_text t.message ++ (values_text signals 0 t.channel t.message ++ 10 ∷ [])))

-- the lines of messages
abbrev pub lines_text : List Signal → List Told → List ℕ
lines_text signals messages = flat_map (line_text signals) messages
