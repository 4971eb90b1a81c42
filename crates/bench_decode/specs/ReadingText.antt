-- How the words of a message are shown: as its layout has them, or behind a second command that supersedes the first
-- (MIL-STD-1553B 4.4.3.2), or as words that can't be told apart (own choice).
use Rattle.std.specs.Prelude.{ℕ, ◌+◌, ◌-◌, ◌≤◌, ◌==◌, Bool, true, not, ◌&&◌, nat_lt, if◌then◌else◌, List, [], ◌∷◌, ◌++◌}
use Rattle.std.specs.Prelude.{codes, Option, None, Some}
use Rattle.mil_word.specs.Fields.{address_of, is_transmit}
use Rattle.ch11_layout.specs.Stamps.{Recorded}
use Rattle.ch11_layout.specs.BlockStatus.{has_word_count_error}
use Rattle.ch11_layout.specs.Forms.{form_of_one}
use Rattle.ch11_layout.specs.Layouts.{word_of, first_gap, second_gap, commands_in, data_start, data_end, size_of}
use Rattle.ch11_layout.specs.Replies.{front_reply}
use Rattle.ch11_layout.specs.declared.view.Reply.{Reply}
use Rattle.bench_decode.specs.declared.readings.Reading.{Reading}
use Rattle.bench_decode.specs.declared.readings.Reading.TheVariants.{Laid, Second, Unclear}
use Rattle.bench_decode.specs.Columns.{Part, text, begin_red, end_red}
use Rattle.bench_decode.specs.FormText.{form_parts}
use Rattle.bench_decode.specs.ReplyText.{front_parts, gap_parts, reply_parts, replies_parts}
use Rattle.bench_decode.specs.Superseding.{command_at, answer_at, has_front_word, second_place}

abbrev pub address_at : ℕ → Recorded → ℕ
address_at place m = address_of (word_of m.bytes place)

-- a status word that is due in front of the data words or behind them is of another terminal than it is due of
abbrev pub front_is_other : Recorded → Bool
front_is_other m = has_front_word m && not (address_at (commands_in m) m == address_at (commands_in m - 1) m)

abbrev pub back_is_other : Recorded → Bool
back_is_other m = nat_lt (data_end m) (size_of m) && not (address_at (data_end m) m == address_at 0 m)

-- words of another number than is due can't be told apart from there on
abbrev pub by_addresses : Recorded → Reading
by_addresses m =
    if front_is_other m then Unclear (commands_in m) else if back_is_other m then Unclear (data_start m) else Laid

abbrev pub without_second : Recorded → Reading
without_second m = if has_word_count_error m.block then by_addresses m else Laid

abbrev pub reading_by : Option ℕ → Recorded → Reading
reading_by (Some place) m = Second place
reading_by None m = without_second m

unfoldable pub reading_of : Recorded → Reading
reading_of m = reading_by (second_place m) m

-- a second command, and the status word that answers it
abbrev pub second_reply : ℕ → Recorded → Reply
second_reply place m =
    record { status = answer_at place m; due = address_of (command_at place m); gap = first_gap m }

unfoldable pub second_parts : ℕ → Recorded → List Part
second_parts place m =
    begin_red ∷ text (codes "second command ") ∷ end_red
    ∷ (form_parts (form_of_one (command_at place m)) ++ (text (codes ": ") ∷ reply_parts (second_reply place m)))

-- a gap that no status word before it tells
abbrev pub is_left : Bool → ℕ → Bool
is_left due gap = due && not (gap == 0)

unfoldable pub gap_if : Bool → ℕ → List Part
gap_if due gap = if is_left due gap then gap_parts gap else []

abbrev pub is_front_told : ℕ → Recorded → Bool
is_front_told place m = nat_lt (commands_in m) place

unfoldable pub told_front : Bool → Recorded → List Part
told_front told m = if told then front_parts (front_reply m) ++ text (codes ", ") ∷ [] else []

-- the status word in front of words that can't be told apart, and the response times of these words
unfoldable pub unclear_parts : ℕ → Recorded → List Part
unclear_parts place m =
    told_front (is_front_told place m) m
    ++ (begin_red ∷ text (codes "words not told apart") ∷ end_red
    ∷ (gap_if (not (is_front_told place m)) (first_gap m) ++ gap_if true (second_gap m)))

unfoldable pub reading_parts : Recorded → Reading → List Part
reading_parts m Laid = replies_parts m
reading_parts m (Second place) = second_parts place m
reading_parts m (Unclear place) = unclear_parts place m

-- where the words begin and end that are shown as data words, in front of a second command if there is one
unfoldable pub first_words : Recorded → Reading → ℕ × ℕ
first_words m Laid = (data_start m, data_end m)
first_words m (Second place) = (commands_in m, place)
first_words m (Unclear place) = (place, size_of m)

-- where the data words begin and end that go with the command at a place
abbrev pub words_behind : ℕ → Recorded → ℕ × ℕ
words_behind place m =
    if is_transmit (command_at place m) then (place + 2, size_of m) else (place + 1, size_of m - 1)

-- where those begin and end that go with a second command
unfoldable pub other_words : Recorded → Reading → ℕ × ℕ
other_words m Laid = (0, 0)
other_words m (Second place) = words_behind place m
other_words m (Unclear place) = (0, 0)

-- a second command stands where the controller's words do, so near the first word
abbrev pub IsNear : Reading → Type 0
IsNear Laid = Unit {0}
IsNear (Second place) = place ≤ 1000
IsNear (Unclear place) = Unit {0}
