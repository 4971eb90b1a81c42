-- The frames of a job that take longer than their period (own choice): the last word of such a frame ends behind the
-- tick at which the next frame is due.
use Rattle.std.specs.Prelude.{ℕ, zero, suc, ◌+◌, ◌-◌, ◌*◌, nat_lt, if◌then◌else◌, List, [], ◌∷◌, ◌++◌, Option, Some}
use Rattle.std.specs.Prelude.{None}
use Rattle.mil_bus.specs.Exchange.{clock_of}
use Rattle.frame_code.specs.Table.{Code}
use Rattle.frame_asm.specs.Shapes.{code_of_tree}
use Rattle.frame_load.specs.Budget.{budget}
use Rattle.bc_machine.specs.declared.frames.Closing.{Closing}
use Rattle.bc_machine.specs.Frames.{closing_of}
use Rattle.bc_machine.specs.Running.{MachineState, most_inserted, started, stepped}
use Rattle.job_file.specs.Jobs.{JobState, tree_in, job_in}
use Rattle.job_file.specs.Meaning.{bus_of}
use Rattle.bench_check.specs.declared.frames.Overrun.{Overrun}

-- when the last word on either line ended
abbrev pub clock_at : MachineState → ℕ
clock_at m = clock_of m.point.state.start m.point.state.talks

-- the frame that is closed, where it has ended behind the tick at which it is due to end
abbrev pub late_of : Option Closing → MachineState → List Overrun
late_of None m = []
late_of (Some c) m =
    let due = c.began + 1000 * c.hundreds in
    if nat_lt due (clock_at m) then record
    { number = m.point.number; hundreds = c.hundreds; ticks = clock_at m - due } ∷ [] else []

-- the same of the frame that the next step closes, if it closes one
abbrev pub overruns_at : MachineState → List Overrun
overruns_at m = late_of (closing_of m) m

-- those of so many steps, in their order
abbrev pub overruns_in : ℕ → MachineState → List Overrun
overruns_in zero m = []
overruns_in (suc n) m = overruns_at m ++ overruns_in n (stepped m)

-- a job's controller at the beginning, under its own actions
abbrev pub beginning_of : JobState → MachineState
beginning_of job = started (code_of_tree (tree_in job)) (bus_of (job_in job)) job.plan job.actions

-- how many steps a controller makes at most: those of its code, and one for each message that its host may insert
abbrev pub most_steps : Code → ℕ
most_steps code = budget code.operations + most_inserted code

-- those of all steps: where it has ended, the controller stands still
abbrev pub overruns : JobState → List Overrun
overruns job = overruns_in (most_steps (code_of_tree (tree_in job))) (beginning_of job)
