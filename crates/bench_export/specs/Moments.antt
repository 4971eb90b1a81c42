-- When the words of a recorded message are on the line, in ticks of 0.1 µs: one behind the other from the stamp on, 20
-- µs each (MIL-STD-1553B 4.3.3.3), and a pause in front of a status word. A gap is measured from the middle of a parity
-- bit to the middle of a sync, which is 20 ticks where nothing lies between (4.3.3.7, 4.3.3.8).
use Rattle.std.specs.Prelude.{ℕ, ◌+◌, ◌-◌, ◌*◌, ◌&&◌, nat_lt, nat_le, if◌then◌else◌}
use Rattle.mil_word.specs.Timing.{word_time, contiguous_gap}
use Rattle.ch11_layout.specs.Stamps.{Recorded}
use Rattle.ch11_layout.specs.Layouts.{size_of, first_gap, last_gap, commands_in, data_start, data_end}

-- in front of the status word that stands between the commands and the data words
abbrev pub front_pause : Recorded → ℕ → ℕ
front_pause m place =
    if nat_lt (commands_in m) (data_start m) && nat_le (commands_in m) place then first_gap m - contiguous_gap else 0

-- in front of the status word that stands behind the data words
abbrev pub back_pause : Recorded → ℕ → ℕ
back_pause m place =
    if nat_lt (data_end m) (size_of m) && nat_le (data_end m) place then last_gap m - contiguous_gap else 0

-- the tick at which the word at a place begins
unfoldable pub begin_of : Recorded → ℕ → ℕ
begin_of m place = m.stamp + word_time * place + front_pause m place + back_pause m place
