-- The text of a dump with times of day (own choice): the lines of any dump, and behind the stamp of a message its time
-- of day, where the recording's time packets tell one.
use Rattle.std.specs.Prelude.{◌≡◌, ℕ, ◌+◌, Bool, true, false, List, [], ◌∷◌, ◌++◌, length, codes, decimal, Option, None}
use Rattle.std.specs.Prelude.{Some}
use Rattle.std.specs.List.{AllByRecursion}
use Rattle.ch11_header.specs.declared.header.Header.{Header}
use Rattle.ch11_f1.specs.BodyReading.{Message}
use Rattle.ch11_layout.specs.Stamps.{kind_of, ticks_of}
use Rattle.ch11_layout.specs.declared.stamps.StampKind.{StampKind}
use Rattle.ch11_layout.specs.declared.stamps.StampKind.TheVariants.{Counter, TimeOfDay}
use Rattle.ch11_reader.specs.declared.skip.Skip.{Skip}
use Rattle.ch11_reader.specs.Recording.{Found}
use Rattle.ch11_reader.specs.Listing.{listing}
use Rattle.ch11_reader.specs.Indexed.{found_in}
use Rattle.ch11_reader.specs.Skipping.{packets_read, skips_in}
use Rattle.bench_clock.specs.declared.clock.Mark.{Mark}
use Rattle.bench_clock.specs.Clock.{marks_in, time_of_stamp}
use Rattle.bench_clock.specs.Time.{Time}
use Rattle.bench_clock.specs.TimeText.{text_of}
use Rattle.bench_dump.specs.DumpText.{bus_words, packet_line, word_digits}
use Rattle.bench_dump.specs.SkippingText.{skip_lines, skips_before, skips_behind, file_text}

abbrev pub time_words : Option Time → List ℕ
time_words None = []
time_words (Some time) = codes " time " ++ text_of time

-- the line of message n on a channel, with a time of day
unfoldable pub timed_line : Option Time → ℕ → ℕ → Message → List ℕ
timed_line time n channel m =
    (codes "message " ++ decimal n)
    ++ ((codes " channel " ++ decimal channel)
    ++ ((codes " stamp " ++ decimal m.stamp)
    ++ (time_words time
    ++ ((codes " block " ++ word_digits m.block)
    ++ ((codes " gaps " ++ word_digits m.gaps)
    ++ (codes " words" ++ (bus_words m.bytes ++ codes "\n")))))))

-- what the stamps of a packet tell of times of day: where none are asked for, as little as a counter's
abbrev pub kind_asked : Bool → Header → StampKind
kind_asked false h = Counter
kind_asked true h = kind_of h

-- the lines of messages on a channel, behind so many messages of the file, whose stamps are of this kind
abbrev pub timed_lines : List Mark → StampKind → ℕ → ℕ → List Message → List ℕ
timed_lines clock kind before channel [] = []
timed_lines clock kind before channel (m ∷ ms) =
    timed_line (time_of_stamp clock kind (ticks_of kind m.stamp)) (before + 1) channel m
    ++ timed_lines clock kind (before + 1) channel ms

-- the lines of packets, behind so many messages, and in front of each packet those of the skips that lie in front of it
abbrev pub timed_in_order : List Mark → Bool → ℕ → List Skip → List Found → List ℕ
timed_in_order clock timed before skips [] = skip_lines skips
timed_in_order clock timed before skips (p ∷ ps) =
    skip_lines (skips_before p.offset skips)
    ++ (packet_line p.offset p.header (length p.messages)
    ++ (timed_lines clock (kind_asked timed p.header) before p.header.channel p.messages
    ++ timed_in_order clock timed (before + length p.messages) (skips_behind p.offset skips) ps))

-- the dump of packets and skips
abbrev pub timed_text : List Mark → Bool → List Skip → List Found → List ℕ
timed_text clock timed skips ps = timed_in_order clock timed 0 skips ps

-- the clock by which a file's packets are printed; none where no times are asked for
abbrev pub clock_of : Bool → List ℕ → List Found → List Mark
clock_of false file ps = []
clock_of true file ps = marks_in file (listing ps)

-- the dump of a file, with or without times of day: of a sound one, or of whatever is sound in it
abbrev pub text_by : Bool → Bool → List ℕ → List ℕ
text_by timed false file = timed_text (clock_of timed file (found_in file)) timed [] (found_in file)
text_by timed true file =
    timed_text (clock_of timed file (packets_read file)) timed (skips_in file) (packets_read file)

-- no stamp of packets is a time of day
abbrev pub is_of_day : StampKind → Bool
is_of_day TimeOfDay = true
is_of_day _ = false

abbrev pub AreTimeless : List Found → Type 0
AreTimeless ps = AllByRecursion (λ (p : Found). is_of_day (kind_of p.header) ≡ false) ps

-- without a time packet that counts and a stamp that is a time of day, the dump with times of day is the dump
abbrev pub TimelessIsPlain : Type 0
TimelessIsPlain =
    (file : List ℕ)
    → (marks_in file (listing (found_in file)) ≡ [] → AreTimeless (found_in file)
    → text_by true false file ≡ file_text false file)
    × (marks_in file (listing (packets_read file)) ≡ [] → AreTimeless (packets_read file)
    → text_by true true file ≡ file_text true file)
