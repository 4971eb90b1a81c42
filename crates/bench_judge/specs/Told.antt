-- What is told of a message or a packet that misses a rule (own choice): what was there, and what was expected.
use Rattle.std.specs.Prelude.{ℕ, ◌-◌, ◌/◌, ◌%◌, ◌==◌, not, ◌&&◌, nat_le, if◌then◌else◌}
use Rattle.std.specs.Prelude.{List, [], ◌∷◌, ◌++◌, codes, decimal, Option, Some, None}
use Rattle.std.specs.List.{flat_map}
use Rattle.numerals.specs.Numerals.{digit_of}
use Rattle.ch11_header.specs.Flags.{has_overflow}
use Rattle.ch11_layout.specs.Layouts.{first_gap, second_gap}
use Rattle.ch11_layout.specs.Replies.{data_count, data_words, statuses}
use Rattle.ch11_layout.specs.Stamps.{Recorded, has_time}
use Rattle.ch11_reader.specs.declared.packet.Packet.{Packet}
use Rattle.ch11_reader.specs.declared.skip.Skip.{Skip}
use Rattle.judge_rules.specs.declared.rules.Bounds.{Bounds}
use Rattle.judge_rules.specs.declared.rules.Datum.{Datum}
use Rattle.judge_rules.specs.declared.rules.Rule.{Rule}
use Rattle.judge_rules.specs.declared.rules.WordRange.{WordRange}
use Rattle.judge_rules.specs.declared.rules.Check.{Check}
use Rattle.judge_rules.specs.declared.rules.Check.TheVariants.{Sound, Failed, Clean, Status, Data, Response, Period}
use Rattle.judge_rules.specs.declared.rules.Check.TheVariants.{Count, CountOf, DataWord, DataStep, Whole}
use Rattle.bench_judge.specs.declared.verdicts.Miss.{Miss}
use Rattle.bench_judge.specs.Checks.{data_word, step_from}
use Rattle.bench_judge.specs.Selection.{Origins}
use Rattle.bench_judge.specs.Skips.{file_place}
use Rattle.bench_judge.specs.Verdicts.{Moment, latest, miss_of}

-- a word as four hexadecimal digits, and behind a space
abbrev pub word_digits : ℕ → List ℕ
word_digits word =
    digit_of (word / 4096 % 16) ∷ digit_of (word / 256 % 16) ∷ digit_of (word / 16 % 16) ∷ digit_of (word % 16) ∷ []

abbrev pub spaced_word : ℕ → List ℕ
spaced_word word = 32 ∷ word_digits word

-- ---- what was there

-- words behind what they are, or that there is none
abbrev pub words_told : List ℕ → List ℕ → List ℕ
words_told name [] = codes "no " ++ name
words_told name (word ∷ words) = name ++ flat_map spaced_word (word ∷ words)

abbrev pub statuses_told : Recorded → List ℕ
statuses_told m = words_told (codes "status") (statuses m)

abbrev pub data_words_told : Recorded → List ℕ
data_words_told m = if data_count m == 0 then codes "no data" else codes "data" ++ flat_map spaced_word (data_words m)

unfoldable pub block_told : Recorded → List ℕ
block_told m = codes "block" ++ (spaced_word m.block ++ (codes " gaps" ++ spaced_word m.gaps))

-- the gap of a reply that came, behind a space
abbrev pub gap_told : ℕ → List ℕ
gap_told gap = if gap == 0 then [] else codes " " ++ decimal gap

unfoldable pub response_told : Recorded → List ℕ
response_told m =
    if (first_gap m == 0) && (second_gap m == 0) then codes "no response"
    else codes "response" ++ (gap_told (first_gap m) ++ gap_told (second_gap m))

-- ticks as microseconds
unfoldable pub micros_told : ℕ → List ℕ
micros_told ticks = decimal (ticks / 10) ++ (codes "." ++ decimal (ticks % 10))

abbrev pub period_told : Option ℕ → Recorded → List ℕ
period_told None m = codes "no time"
period_told (Some before) m =
    if not (has_time m) then codes "no time"
    else if nat_le before m.stamp then codes "period " ++ micros_told (m.stamp - before)
    else codes "a stamp that falls"

-- a data word, counted from 1
unfoldable pub place_told : ℕ → List ℕ
place_told place = codes "word " ++ decimal place

abbrev pub data_word_told : ℕ → Option ℕ → List ℕ
data_word_told place None = codes "no " ++ place_told place
data_word_told place (Some word) = place_told place ++ spaced_word word

-- a data word, and by how much it is more than the one before it
abbrev pub step_told : ℕ → Option ℕ → Option ℕ → List ℕ
step_told place before None = data_word_told place None
step_told place None (Some word) = data_word_told place (Some word)
step_told place (Some before) (Some word) =
    data_word_told place (Some word) ++ (codes " step" ++ spaced_word (step_from before word))

abbrev pub was_there : Check → Option ℕ → Recorded → List ℕ
was_there Sound before m = block_told m
was_there Failed before m = block_told m
was_there Clean before m = block_told m
was_there (Status d) before m = statuses_told m
was_there (Data wanted) before m = data_words_told m
was_there (Response b) before m = response_told m
was_there (Period b) before m = period_told before m
was_there (DataWord r) before m = data_word_told r.place (data_word r.place m)
was_there (DataStep r) before m = step_told r.place before (data_word r.place m)
was_there (Count b) before m = []
was_there (CountOf b kind) before m = []
was_there Whole before m = []

-- ---- what was expected

unfoldable pub bounds_told : Bounds → List ℕ
bounds_told b = codes " " ++ (decimal b.low ++ (codes " to " ++ decimal b.high))

unfoldable pub range_told : WordRange → List ℕ
range_told r = spaced_word r.low ++ (codes " to" ++ spaced_word r.high)

-- a value, and its mask where bits are left out
abbrev pub status_told : Datum → List ℕ
status_told d =
    if d.mask == 0xFFFF then spaced_word d.value else spaced_word d.value ++ (codes " mask" ++ spaced_word d.mask)

-- a data word as a rule has it, behind a space
abbrev pub datum_told : Datum → List ℕ
datum_told d =
    if d.mask == 0 then codes " ...."
    else if d.mask == 0xFFFF then spaced_word d.value
    else spaced_word d.value ++ (codes "/" ++ word_digits d.mask)

abbrev pub data_told : List Datum → List ℕ
data_told [] = codes " none"
data_told (d ∷ ds) = flat_map datum_told (d ∷ ds)

abbrev pub was_expected : Check → List ℕ
was_expected Sound = codes " ok"
was_expected Failed = codes " fail"
was_expected Clean = codes " clean"
was_expected (Status d) = status_told d
was_expected (Data wanted) = data_told wanted.items
was_expected (Response b) = bounds_told b
was_expected (Period b) = bounds_told b
was_expected (DataWord r) = range_told r
was_expected (DataStep r) = range_told r
was_expected (Count b) = bounds_told b
was_expected (CountOf b kind) = bounds_told b
was_expected Whole = codes " whole"

-- ---- all of it

unfoldable pub told_of : Check → Option ℕ → Recorded → List ℕ
told_of check before m = was_there check before m ++ (codes ", expected" ++ was_expected check)

-- where a message is
abbrev pub stamp_told : Option ℕ → List ℕ
stamp_told None = codes " stamp -"
stamp_told (Some ticks) = codes " stamp " ++ decimal ticks

unfoldable pub told_miss : Miss → List ℕ
told_miss m =
    codes "\nmessage " ++ (decimal m.number ++ (codes " channel " ++ (decimal m.channel ++ stamp_told m.stamp)))

-- a message that misses a rule, and why
unfoldable pub told_at : Miss → Check → Option ℕ → Recorded → List ℕ
told_at miss check before m = told_miss miss ++ (codes ": " ++ told_of check before m)

abbrev pub told_moment : Rule → Origins → Moment → List ℕ
told_moment rule origins x =
    told_at (miss_of x) rule.check (latest rule origins x.channel x.earlier) x.message

-- a packet that misses a rule, by where it begins in a file of which these bytes were skipped, and why
abbrev pub packet_why : Packet → List ℕ
packet_why p =
    if has_overflow p.header then codes ": overflow flag, expected none"
    else codes ": sequence number " ++ (decimal p.header.sequence ++ codes ", expected the next of its channel")

unfoldable pub packet_told : List ℕ → List Skip → Packet → List ℕ
packet_told label skips p =
    label ++ (decimal (file_place skips p.offset) ++ (codes " channel " ++ (decimal p.header.channel ++ packet_why p)))

abbrev pub told_packet : List Skip → Packet → List ℕ
told_packet skips p = packet_told (codes "\npacket ") skips p

-- a count that is not met
unfoldable pub told_count : Check → ℕ → List ℕ
told_count check counted = codes "count " ++ (decimal counted ++ (codes ", expected" ++ was_expected check))
