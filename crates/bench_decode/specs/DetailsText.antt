-- A message on several lines (own choice), what it does not have left out: where it stands, its time, its form, the
-- status words, the data words, and the names of the bits of its block status word.
use Rattle.std.specs.Prelude.{ℕ, ◌+◌, min, nat_lt, Bool, if◌then◌else◌, List, [], ◌∷◌, ◌++◌, codes, decimal}
use Rattle.std.specs.Prelude.{Option, None, Some}
use Rattle.ch11_layout.specs.Stamps.{Recorded, time_of}
use Rattle.ch11_layout.specs.Forms.{form_of}
use Rattle.ch11_layout.specs.Layouts.{size_of}
use Rattle.bench_dump.specs.DumpText.{bus_words, word_digits}
use Rattle.bench_decode.specs.declared.line.Shown.{Shown}
use Rattle.bench_decode.specs.declared.messages.Place.{Place}
use Rattle.bench_decode.specs.declared.readings.Reading.{Reading}
use Rattle.bench_decode.specs.Columns.{Part, text, drawn}
use Rattle.bench_decode.specs.Letters.{letter_of}
use Rattle.bench_decode.specs.Times.{seconds_of, ticks_of, decimals_text}
use Rattle.bench_decode.specs.FormText.{form_parts}
use Rattle.bench_decode.specs.BitText.{block_parts, has_names}
use Rattle.bench_decode.specs.ReadingText.{reading_of, reading_parts, first_words, other_words}
use Rattle.bench_decode.specs.MessageText.{between, is_unknown}

unfoldable pub time_parts : Option ℕ → List Part
time_parts None = text (codes "\n-\n") ∷ []
time_parts (Some ticks) =
    text (codes "\n" ++ decimal (seconds_of ticks)) ∷ text (decimals_text (ticks_of ticks)) ∷ text (codes " s\n") ∷ []

unfoldable pub place_parts : Place → Recorded → List Part
place_parts place m =
    text (codes "message " ++ decimal place.number) ∷ text (codes ", channel " ++ decimal place.channel)
    ∷ text (codes ", number " ++ decimal place.in_channel) ∷ text (codes " there, line ")
    ∷ text (letter_of m ∷ []) ∷ time_parts (time_of m)

-- that there are more words than are shown
unfoldable pub more_parts : Bool → List Part
more_parts more = if more then text (codes " ..") ∷ [] else []

-- the words from a place up to another behind a label, the first forty of them
unfoldable pub some_data : List ℕ → Recorded → ℕ × ℕ → List Part
some_data label m places =
    text label ∷ text (bus_words (between m.bytes places.0 (min places.1 (places.0 + 40))))
    ∷ more_parts (nat_lt (places.0 + 40) places.1)

unfoldable pub data_parts : List ℕ → Recorded → ℕ × ℕ → List Part
data_parts label m places = if nat_lt places.0 places.1 then some_data label m places else []

unfoldable pub raw_parts : Recorded → List Part
raw_parts m =
    text (codes "\nblock") ∷ text (32 ∷ word_digits m.block) ∷ text (codes " gaps") ∷ text (32 ∷ word_digits m.gaps)
    ∷ data_parts (codes "\nwords") m (0, size_of m)

unfoldable pub known_parts : Recorded → Reading → List Part
known_parts m r =
    text (codes "\nstatus words: ")
    ∷ (reading_parts m r
    ++ (data_parts (codes "\ndata words:") m (first_words m r)
    ++ data_parts (codes "\ndata words of the second command:") m (other_words m r)))

unfoldable pub names_parts : ℕ → List Part
names_parts block = if has_names block then text (codes "\nblock status:") ∷ block_parts block else []

-- what stands behind the form
unfoldable pub body_parts : Recorded → List Part
body_parts m = if is_unknown (form_of m) then raw_parts m else known_parts m (reading_of m)

unfoldable pub details_parts : Place → Recorded → List Part
details_parts place m =
    place_parts place m ++ (form_parts (form_of m) ++ (body_parts m ++ names_parts m.block))

unfoldable pub details_text : Shown → Place → Recorded → List ℕ
details_text shown place m = drawn shown 0 (details_parts place m)
