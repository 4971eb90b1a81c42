-- What a rule asks of a message that it selects (own choice).
use Rattle.std.specs.Prelude.{ℕ, ◌+◌, ◌-◌, ◌*◌, ◌%◌, ◌==◌, Bool, true, false, not, ◌&&◌, ◌||◌, nat_le}
use Rattle.std.specs.Prelude.{List, [], ◌∷◌, length, Option, Some, None, bit_and, if◌then◌else◌}
use Rattle.std.specs.List.{list_all}
use Rattle.ch11_layout.specs.Stamps.{Recorded, has_time}
use Rattle.ch11_layout.specs.BlockStatus.{has_error, is_transfer, has_format_error, has_response_timeout}
use Rattle.ch11_layout.specs.BlockStatus.{has_word_count_error, has_sync_type_error, has_invalid_word_error}
use Rattle.ch11_layout.specs.Layouts.{word_of, layout_of, first_gap, second_gap}
use Rattle.judge_rules.specs.declared.rules.Bounds.{Bounds}
use Rattle.judge_rules.specs.declared.rules.Datum.{Datum}
use Rattle.judge_rules.specs.declared.rules.Check.{Check}
use Rattle.judge_rules.specs.declared.rules.Check.TheVariants.{Sound, Failed, Clean, Status, Data, Response, Period}
use Rattle.judge_rules.specs.declared.rules.Check.TheVariants.{Count, CountOf, DataWord, DataStep, Whole}
use Rattle.judge_rules.specs.declared.rules.Kind.{Kind}
use Rattle.judge_rules.specs.declared.rules.Kind.TheVariants as kind
use Rattle.judge_rules.specs.declared.rules.WordRange.{WordRange}
use Rattle.ch11_layout.specs.Replies.{statuses, data_count}
use Rattle.bench_judge.specs.Clean.{clean}

-- the word has the value in the bits of the mask
abbrev pub agrees : Datum → ℕ → Bool
agrees d word = bit_and word d.mask == bit_and d.value d.mask

abbrev pub is_some_list : List ℕ → Bool
is_some_list [] = false
is_some_list (word ∷ more) = true

-- there is a status word, and all have the value
abbrev pub has_status : Datum → Recorded → Bool
has_status d m = is_some_list (statuses m) && list_all (agrees d) (statuses m)

-- the words from a place on have these values
abbrev pub words_agree : List ℕ → ℕ → List Datum → Bool
words_agree bytes place [] = true
words_agree bytes place (d ∷ ds) = agrees d (word_of bytes place) && words_agree bytes (place + 1) ds

-- the data words are as many, and have these values
abbrev pub has_data : List Datum → Recorded → Bool
has_data wanted m = (data_count m == length wanted) && words_agree m.bytes (layout_of m).data_start wanted

abbrev pub is_in : Bounds → ℕ → Bool
is_in b n = nat_le b.low n && nat_le n b.high

-- there is a reply, and the gap of each, which is 0 where there is none, lies in the bounds
abbrev pub responds_in : Bounds → Recorded → Bool
responds_in b m =
    (not (first_gap m == 0) || not (second_gap m == 0))
    && (first_gap m == 0 || is_in b (first_gap m)) && (second_gap m == 0 || is_in b (second_gap m))

-- ten ticks are a microsecond
abbrev pub is_in_micros : Bounds → ℕ → Bool
is_in_micros b ticks = nat_le (10 * b.low) ticks && nat_le ticks (10 * b.high)

-- a stamp follows one before it in time; the first is not judged
abbrev pub follows_in : Bounds → Option ℕ → ℕ → Bool
follows_in b None stamp = true
follows_in b (Some before) stamp = nat_le before stamp && is_in_micros b (stamp - before)

-- the data word of a place, counted from 1, if the message has it
abbrev pub data_word : ℕ → Recorded → Option ℕ
data_word place m =
    if nat_le place (data_count m) then Some (word_of m.bytes ((layout_of m).data_start + (place - 1))) else None

abbrev pub is_in_range : WordRange → ℕ → Bool
is_in_range r word = nat_le r.low word && nat_le word r.high

-- there is the word, and it has one of the values
abbrev pub has_word : WordRange → Option ℕ → Bool
has_word r None = false
has_word r (Some word) = is_in_range r word

-- by how much a word is more than the one before it, modulo 65,536
abbrev pub step_from : ℕ → ℕ → ℕ
step_from before word = (word + 65536 - before) % 65536

-- there is the word, and it is so much more than the one before it; the first is not judged
abbrev pub steps_in : WordRange → Option ℕ → Option ℕ → Bool
steps_in r before None = false
steps_in r None (Some word) = true
steps_in r (Some before) (Some word) = is_in_range r (step_from before word)

-- ---- messages of a kind

-- a message with the bit of no response, or a late one, to which no reply came
abbrev pub is_silent : Recorded → Bool
is_silent m = has_response_timeout m.block && (first_gap m == 0) && (second_gap m == 0)

abbrev pub is_of_kind : Kind → Recorded → Bool
is_of_kind kind.Sound m = not (has_error m.block)
is_of_kind kind.Failed m = has_error m.block
is_of_kind kind.Clean m = clean m
is_of_kind kind.Silent m = is_silent m
is_of_kind kind.MessageError m = has_error m.block
is_of_kind kind.TerminalToTerminal m = is_transfer m.block
is_of_kind kind.FormatError m = has_format_error m.block
is_of_kind kind.ResponseTimeout m = has_response_timeout m.block
is_of_kind kind.WordCountError m = has_word_count_error m.block
is_of_kind kind.SyncTypeError m = has_sync_type_error m.block
is_of_kind kind.InvalidWordError m = has_invalid_word_error m.block

-- a count counts a message: each, or each of its kind
abbrev pub is_counted : Check → Recorded → Bool
is_counted (Count b) m = true
is_counted (CountOf b k) m = is_of_kind k m
is_counted _ m = false

-- as many were counted as a count asks for
abbrev pub counts : Check → ℕ → Bool
counts (Count b) counted = is_in b counted
counts (CountOf b k) counted = is_in b counted
counts _ counted = true

abbrev pub is_count : Check → Bool
is_count (Count b) = true
is_count (CountOf b k) = true
is_count _ = false

-- the check is about packets, and not about messages
abbrev pub is_whole : Check → Bool
is_whole Whole = true
is_whole _ = false

-- ---- a message meets a check

-- what a check compares with that of the message before: the stamp of a period, and the word of a step, if there is one
abbrev pub compared : Check → Recorded → Option ℕ
compared (Period b) m = Some m.stamp
compared (DataStep r) m = data_word r.place m
compared _ m = None

-- A message meets a check; this is what the latest message before it has that the rule selects in its channel and that
-- has what is compared. One whose time is not known misses any period.
abbrev pub meets : Check → Option ℕ → Recorded → Bool
meets Sound before m = not (has_error m.block)
meets Failed before m = has_error m.block
meets Clean before m = clean m
meets (Status d) before m = has_status d m
meets (Data wanted) before m = has_data wanted.items m
meets (Response b) before m = responds_in b m
meets (Period b) before m = has_time m && follows_in b before m.stamp
meets (Count b) before m = true
meets (CountOf b k) before m = true
meets (DataWord r) before m = has_word r (data_word r.place m)
meets (DataStep r) before m = steps_in r before (data_word r.place m)
meets Whole before m = true
