-- The open frames of a controller, and by how much a step moves now.
use Rattle.std.specs.Prelude.{ℕ, ◌+◌, ◌-◌, ◌*◌, ◌^◌, ◌≤◌, List, ◌∷◌, Option, Some, None, slice_get}
use Rattle.frame_code.specs.declared.Op.{Op}
use Rattle.frame_code.specs.declared.Op.TheVariants.{Pace}
use Rattle.std.specs.List.{AllByRecursion}
use Rattle.controller_host.specs.Values.{InsertionValue, latest_tick}
use Rattle.frame_load.specs.Budget.{cost_of, one_period, one_sent}
use Rattle.bc_machine.specs.declared.frames.Closing.{Closing}
use Rattle.bc_machine.specs.Running.{MachineState, clock_in, waiting}

-- each open frame began now or before
abbrev pub HaveBegun : MachineState → Type 0
HaveBegun m = AllByRecursion (λ b. b ≤ clock_in m) m.at.frames

-- by how many ticks the next step moves now at most: a message by 2^24, an inserted one besides by what is left to the
-- latest tick that it may wait for, the end of a frame by its period
abbrev pub most_ticks_with : Option InsertionValue → MachineState → ℕ
most_ticks_with None m =
    cost_of one_period (slice_get m.code.operations m.at.place)
    + cost_of one_sent (slice_get m.code.operations m.at.place) * 2 ^ 24
most_ticks_with (Some x) m = (latest_tick - clock_in m) + 2 ^ 24

abbrev pub most_ticks : MachineState → ℕ
most_ticks m = most_ticks_with (waiting m) m

-- the frame that an operation closes, where these are open, the latest first
abbrev pub closed_by : Option Op → List ℕ → Option Closing
closed_by (Some (Pace h)) (b ∷ bs) = Some (record { began = b; hundreds = h })
closed_by _ _ = None

-- the frame that the next step closes
abbrev pub closing_of : MachineState → Option Closing
closing_of m = closed_by (slice_get m.code.operations m.at.place) m.at.frames
