-- What is told of a frame with a period when it is closed (own choice): its period, when it began, and what time was
-- left of it, or by how much it ended late. Times are told in µs, a tick of 0.1 µs being a tenth.
use Rattle.std.specs.Prelude.{ℕ, ◌+◌, ◌-◌, ◌*◌, ◌/◌, ◌%◌, nat_le, if◌then◌else◌, [], ◌++◌, Option, Some, None}
use Rattle.std.specs.Prelude.{codes, decimal}
use Rattle.text_lines.specs.Words.{Text}
use Rattle.bc_machine.specs.declared.frames.Closing.{Closing}
use Rattle.bc_machine.specs.Frames.{closing_of}
use Rattle.bc_machine.specs.Running.{MachineState}
use Rattle.bench_check.specs.Overruns.{clock_at}

-- a number of tenths
abbrev pub tenths_text : ℕ → Text
tenths_text n = decimal (n / 10) ++ (codes "." ++ decimal (n % 10))

-- a period in µs, where it is counted in hundreds of them
abbrev pub period : ℕ → ℕ
period hundreds = 100 * hundreds

-- what time was left, in ms from 1 ms on
abbrev pub left_text : ℕ → Text
left_text ticks =
    if nat_le 10000 ticks
    then tenths_text (ticks / 1000) ++ codes " ms left\n"
    else tenths_text ticks ++ codes " us left\n"

-- by how much it ended late
abbrev pub late_text : ℕ → Text
late_text ticks = tenths_text ticks ++ codes " us too long\n"

-- how a frame ended that was due at one tick, where the last word ended at another
abbrev pub end_text : ℕ → ℕ → Text
end_text due clock =
    if nat_le clock due then left_text (due - clock) else late_text (clock - due)

-- its period, and when it began
abbrev pub head_text : Closing → Text
head_text c = codes "frame " ++ (decimal (period c.hundreds)
    ++ (codes " us, begun at " ++ (tenths_text c.began ++ codes " us: ")))

-- the line of a frame that is closed when the last word ended at this tick
abbrev pub frame_line : Closing → ℕ → Text
frame_line c clock = head_text c ++ end_text (c.began + 1000 * c.hundreds) clock

abbrev pub line_of : Option Closing → ℕ → Text
line_of None clock = []
line_of (Some c) clock = frame_line c clock

-- the line of the frame that the next step closes, if it closes one
abbrev pub frame_line_at : MachineState → Text
frame_line_at m = line_of (closing_of m) (clock_at m)
