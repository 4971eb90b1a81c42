-- Which words of a recorded message are commands, status words and data words (MIL-STD-1553B 4.3.3.6; IRIG 106-17
-- Chapter 11, MIL-STD-1553 bus data packets, Format 1). A message of any form is commands, perhaps a status word, data
-- words, and perhaps a status word; that a reply came is said by the gap times word, in which a gap of 0 is none.
use Rattle.std.specs.Prelude.{ℕ, ◌+◌, ◌-◌, ◌/◌, ◌%◌, ◌==◌, Bool, not, ◌&&◌, ◌||◌, nat_lt, if◌then◌else◌}
use Rattle.std.specs.Prelude.{length}
use Rattle.mil_word.specs.Fields.{is_transmit, is_broadcast}
use Rattle.ch11_layout.specs.Stamps.{Recorded}
use Rattle.ch11_layout.specs.BlockStatus.{is_transfer}
use Rattle.ch11_layout.specs.declared.layouts.Layout.{Layout}
use Rattle.ch11_layout.specs.declared.layouts.Role.{Role}
use Rattle.ch11_layout.specs.declared.layouts.Role.TheVariants.{Command, Status, Data}
pub use Rattle.ch11_f1.specs.SeenWords.{word_of}

-- how many words there are
abbrev pub size_of : Recorded → ℕ
size_of m = length m.bytes / 2

abbrev pub first_word : Recorded → ℕ
first_word m = word_of m.bytes 0

-- a transfer between terminals, which has two commands
abbrev pub is_between : Recorded → Bool
is_between m = is_transfer m.block

-- the gaps of the first and of the second reply, in ticks
abbrev pub first_gap : Recorded → ℕ
first_gap m = m.gaps % 256

abbrev pub second_gap : Recorded → ℕ
second_gap m = m.gaps / 256

-- how many of the words are commands
abbrev pub commands_in : Recorded → ℕ
commands_in m =
    if size_of m == 0 then 0
    else if is_between m && nat_lt 1 (size_of m) then 2
    else 1

-- the sender of data words replies before them: a status word stands right behind the commands
abbrev pub has_front : Recorded → Bool
has_front m =
    nat_lt (commands_in m) (size_of m)
    && (not (first_gap m == 0) && (is_between m || (is_transmit (first_word m) && not (is_broadcast (first_word m)))))

abbrev pub data_start : Recorded → ℕ
data_start m = commands_in m + (if has_front m then 1 else 0)

-- the gap of the receiver's reply
abbrev pub last_gap : Recorded → ℕ
last_gap m = if is_between m then second_gap m else if has_front m then 0 else first_gap m

-- the receiver of data words replies behind them: the last word is a status word
abbrev pub has_back : Recorded → Bool
has_back m = nat_lt (data_start m) (size_of m) && not (last_gap m == 0)

abbrev pub data_end : Recorded → ℕ
data_end m = size_of m - (if has_back m then 1 else 0)

abbrev pub layout_of : Recorded → Layout
layout_of m = record {
  words = size_of m;
  commands = commands_in m;
  data_start = data_start m;
  data_end = data_end m;
}

-- what the word at a place is
abbrev pub role_at : Layout → ℕ → Role
role_at l place =
    if nat_lt place l.commands then Command
    else if nat_lt place l.data_start then Status
    else if nat_lt place l.data_end then Data
    else Status
