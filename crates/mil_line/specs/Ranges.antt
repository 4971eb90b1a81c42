-- The ranges of planned faults (own choice).
use Rattle.std.specs.Prelude.{ℕ, Bool, ◌&&◌, not, ◌==◌, nat_le, nat_lt}
use Rattle.mil_word.specs.Timing.{contiguous_gap, least_response, latest_response}
use Rattle.mil_line.specs.declared.faults.Fault.{Fault}
use Rattle.mil_line.specs.declared.faults.Fault.TheVariants.{Mask, Drop, Add, Late, Mute, Early}
use Rattle.mil_line.specs.declared.faults.Fault.TheVariants.{Pause, Babble}

-- how many words of a talk come on the line; none past them is sent
abbrev pub most_sent : ℕ
most_sent = 40

-- a word of the controller's run or of one of the two replies
abbrev pub is_place : ℕ → ℕ → Bool
is_place run index = nat_le run 2 && nat_lt index most_sent

abbrev pub is_reply_run : ℕ → Bool
is_reply_run run = nat_le 1 run && nat_le run 2

abbrev pub is_in_range : Fault → Bool
is_in_range (Mask run index half_bits) = is_place run index && not (half_bits == 0)
is_in_range (Drop run index) = is_place run index
is_in_range (Add run index word) = is_place run index
is_in_range (Late run ticks) = is_reply_run run && nat_lt latest_response ticks && nat_le ticks 255
is_in_range (Mute run) = is_reply_run run
is_in_range (Early run ticks) = is_reply_run run && nat_lt contiguous_gap ticks && nat_lt ticks least_response
is_in_range (Pause run index ticks) = is_place run index && nat_le 1 index && nat_lt contiguous_gap ticks
    && nat_le ticks 255
is_in_range (Babble run count word) = nat_le run 2 && nat_le 1 count && nat_le count most_sent

-- messages are numbered from 1
abbrev pub is_number : ℕ → Bool
is_number number = nat_le 1 number && nat_le number 1000000
