-- The line of a message (own choice): its number, its time in seconds, its channel, its number there, the line, the
-- form in the words of a script, the status words with their response times, the data words, and the names of the bits
-- of its block status word.
use Rattle.std.specs.Prelude.{ℕ, ◌*◌, nat_lt, ◌||◌, if◌then◌else◌, List, [], ◌∷◌, ◌++◌, codes, decimal, drop, take}
use Rattle.std.specs.Prelude.{Bool, true, false, Option, None, Some}
use Rattle.ch11_layout.specs.Stamps.{Recorded, time_of}
use Rattle.ch11_layout.specs.Forms.{form_of}
use Rattle.ch11_layout.specs.Layouts.{size_of}
use Rattle.ch11_layout.specs.declared.forms.RecordedForm.{RecordedForm}
use Rattle.ch11_layout.specs.declared.forms.RecordedForm.TheVariants.{Receive, Transmit, Between, Mode}
use Rattle.ch11_layout.specs.declared.forms.RecordedForm.TheVariants.{ReceiveAll, BetweenAll, ModeAll, Unknown}
use Rattle.signal_dictionary.specs.declared.signals.Signal.{Signal}
use Rattle.signal_values.specs.Readings.{Value}
use Rattle.signal_values.specs.Texts.{told_text}
use Rattle.bench_select.specs.Signals.{value_in}
use Rattle.bench_dump.specs.DumpText.{bus_words, word_digits}
use Rattle.bench_decode.specs.declared.line.Shown.{Shown}
use Rattle.bench_decode.specs.declared.messages.Place.{Place}
use Rattle.bench_decode.specs.declared.readings.Reading.{Reading}
use Rattle.bench_decode.specs.Columns.{Part, text, upto, past, begin_red, end_red, right, drawn}
use Rattle.bench_decode.specs.Letters.{letter_of}
use Rattle.bench_decode.specs.Times.{seconds_of, ticks_of, decimals_text}
use Rattle.bench_decode.specs.FormText.{form_parts}
use Rattle.bench_decode.specs.BitText.{block_parts, has_names}
use Rattle.bench_decode.specs.ReadingText.{reading_of, reading_parts, first_words, other_words}

-- a time in seconds, the point in column 13; '-' where none is known
unfoldable pub time_parts : Option ℕ → List Part
time_parts None = upto 20 ∷ text (codes "-") ∷ []
time_parts (Some ticks) =
    text (right 5 (decimal (seconds_of ticks))) ∷ text (decimals_text (ticks_of ticks)) ∷ []

-- what stands in front of the form, which begins in column 43
unfoldable pub place_by : Place → Option ℕ → ℕ → List Part
place_by place time letter =
    text (right 7 (decimal place.number)) ∷ text (codes " ")
    ∷ (time_parts time
    ++ (text (codes " ") ∷ text (right 7 (decimal place.channel)) ∷ text (codes " ")
    ∷ text (right 7 (decimal place.in_channel)) ∷ past 38 ∷ text (letter ∷ []) ∷ past 43 ∷ []))

abbrev pub place_parts : Place → Recorded → List Part
place_parts place m = place_by place (time_of m) (letter_of m)

-- the bytes of the words from a place up to another
abbrev pub between : List ℕ → ℕ → ℕ → List ℕ
between bytes from to = drop (from * 2) (take (to * 2) bytes)

-- words that go with a second command
unfoldable pub then_words : Recorded → ℕ × ℕ → List Part
then_words m places = text (codes " then") ∷ text (bus_words (between m.bytes places.0 places.1)) ∷ []

unfoldable pub then_parts : Recorded → ℕ × ℕ → List Part
then_parts m places = if nat_lt places.0 places.1 then then_words m places else []

-- Words from column 103 on, each a space and four digits, and behind them those that go with a second command; names of
-- bits begin there too where no words stand.
unfoldable pub some_words : Recorded → ℕ × ℕ → ℕ × ℕ → List Part
some_words m first other = upto 102 ∷ text (bus_words (between m.bytes first.0 first.1)) ∷ then_parts m other

abbrev pub has_words : Recorded → ℕ × ℕ → ℕ × ℕ → Bool
has_words m first other = nat_lt first.0 first.1 || (nat_lt other.0 other.1 || has_names m.block)

unfoldable pub words_parts : Recorded → ℕ × ℕ → ℕ × ℕ → List Part
words_parts m first other = if has_words m first other then some_words m first other else []

-- a message of no known form: its block status word, its gap times word and all its words
unfoldable pub raw_parts : Recorded → List Part
raw_parts m =
    begin_red ∷ (form_parts Unknown
    ++ (end_red ∷ past 77 ∷ text (codes "block") ∷ text (32 ∷ word_digits m.block) ∷ text (codes " gaps")
    ∷ text (32 ∷ word_digits m.gaps) ∷ []))

-- the form, which begins in column 43, and the status words from column 77 on
unfoldable pub known_parts : RecordedForm → Recorded → Reading → List Part
known_parts form m r = form_parts form ++ (past 77 ∷ reading_parts m r)

abbrev pub is_unknown : RecordedForm → Bool
is_unknown (Receive address subaddress count) = false
is_unknown (Transmit address subaddress count) = false
is_unknown (Between sender from receiver to count) = false
is_unknown (Mode address subaddress transmit code) = false
is_unknown (ReceiveAll subaddress count) = false
is_unknown (BetweenAll sender from to count) = false
is_unknown (ModeAll subaddress transmit code) = false
is_unknown Unknown = true

-- from the form to the data words: of no known form all words are shown
unfoldable pub unknown_parts : Recorded → List Part
unknown_parts m = raw_parts m ++ words_parts m (0, size_of m) (0, 0)

unfoldable pub formed_parts : Recorded → List Part
formed_parts m =
    known_parts (form_of m) m (reading_of m)
    ++ words_parts m (first_words m (reading_of m)) (other_words m (reading_of m))

unfoldable pub body_parts : Recorded → List Part
body_parts m = if is_unknown (form_of m) then unknown_parts m else formed_parts m

unfoldable pub end_parts : Recorded → List Part
end_parts m = block_parts m.block ++ text (codes "\n") ∷ []

unfoldable pub message_parts : Place → Recorded → List Part
message_parts place m = place_parts place m ++ (body_parts m ++ end_parts m)

unfoldable pub message_line : Shown → Place → Recorded → List ℕ
message_line shown place m = drawn shown 0 (message_parts place m)

-- the same with the values of signals that it has behind the data words
unfoldable pub told_value : Signal → Option Value → List Part
told_value signal None = []
told_value signal (Some value) = text (told_text signal value) ∷ []

abbrev pub value_parts : Signal → ℕ → Recorded → List Part
value_parts signal channel m = told_value signal (value_in signal channel m)

unfoldable pub values_parts : List Signal → ℕ → Recorded → List Part
values_parts [] channel m = []
values_parts (signal ∷ signals) channel m = value_parts signal channel m ++ values_parts signals channel m

unfoldable pub message_line_with : List Signal → Shown → Place → Recorded → List ℕ
message_line_with signals shown place m =
    drawn shown 0
    (place_parts place m ++ ((body_parts m ++ values_parts signals place.channel m) ++ end_parts m))

-- the line with the names of the columns
unfoldable pub columns_parts : List Part
columns_parts =
    text (codes "message       seconds channel  number line form") ∷ past 77
    ∷ text (codes "status words, responses   data words, block status") ∷ text (codes "\n") ∷ []

unfoldable pub columns_line : Shown → List ℕ
columns_line shown = drawn shown 0 columns_parts
