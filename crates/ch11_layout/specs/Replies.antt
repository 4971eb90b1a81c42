-- The replies and the data words of a recorded message (MIL-STD-1553B 4.3.3.6; IRIG 106-17 Chapter 11, MIL-STD-1553 bus
-- data packets, Format 1). The terminal that sends data words replies in front of them, the one that receives them
-- behind them.
use Rattle.std.specs.Prelude.{ℕ, ◌+◌, ◌-◌, ◌==◌, Bool, nat_lt, if◌then◌else◌, List, [], ◌∷◌, ◌++◌, map}
use Rattle.std.specs.Prelude.{Option, Some, None}
use Rattle.std.specs.List.{range_with_len}
use Rattle.mil_word.specs.Fields.{address_of}
use Rattle.mil_word.specs.declared.Line.{Line}
use Rattle.mil_word.specs.declared.Line.TheVariants.{A, B}
use Rattle.ch11_layout.specs.Stamps.{Recorded}
use Rattle.ch11_layout.specs.BlockStatus.{is_on_line_b}
use Rattle.ch11_layout.specs.Layouts.{size_of, word_of, first_word, commands_in, data_start, data_end}
use Rattle.ch11_layout.specs.Layouts.{first_gap, second_gap, last_gap, layout_of}
use Rattle.ch11_layout.specs.declared.layouts.Layout.{Layout}
use Rattle.ch11_layout.specs.declared.view.Reply.{Reply}

-- the line that a message went over
abbrev pub line_of : Recorded → Line
line_of m = if is_on_line_b m.block then B else A

-- the command to the terminal that sends data words, the last of the commands
abbrev pub last_command : Recorded → ℕ
last_command m = word_of m.bytes (commands_in m - 1)

-- the status word at a place, of which terminal it is due, and behind which gap it came
abbrev pub reply_at : Recorded → ℕ → ℕ → ℕ → Reply
reply_at m place command gap = record { status = word_of m.bytes place; due = address_of command; gap = gap }

-- in front of the data words
abbrev pub front_reply : Recorded → Option Reply
front_reply m =
    if nat_lt (commands_in m) (data_start m)
    then Some (reply_at m (commands_in m) (last_command m) (first_gap m)) else None

-- behind them
abbrev pub back_reply : Recorded → Option Reply
back_reply m =
    if nat_lt (data_end m) (size_of m) then Some (reply_at m (data_end m) (first_word m) (last_gap m)) else None

-- a message with one command, and one with two
abbrev pub has_one : Recorded → Bool
has_one m = commands_in m == 1

abbrev pub has_two : Recorded → Bool
has_two m = commands_in m == 2

-- the status words in front of the data words and behind them
abbrev pub statuses_by : Layout → List ℕ → List ℕ
statuses_by l bytes =
    (if nat_lt l.commands l.data_start then word_of bytes l.commands ∷ [] else [])
    ++ (if nat_lt l.data_end l.words then word_of bytes l.data_end ∷ [] else [])

abbrev pub statuses : Recorded → List ℕ
statuses m = statuses_by (layout_of m) m.bytes

-- how many data words there are, and which
abbrev pub data_count : Recorded → ℕ
data_count m = (layout_of m).data_end - (layout_of m).data_start

abbrev pub data_words : Recorded → List ℕ
data_words m = map (λ place. word_of m.bytes ((layout_of m).data_start + place)) (range_with_len 0 (data_count m))

-- the gaps of both replies, 0 where there is none
abbrev pub gaps : Recorded → List ℕ
gaps m = first_gap m ∷ second_gap m ∷ []
