-- The actions placed at numbers up to the last message are all that a job's messages meet.
use Rattle.std.specs.Prelude.{◌≡◌, ◌≤◌, ℕ, List, length}
use Rattle.bc_machine.specs.declared.placed.Placed.{Placed}
use Rattle.job_file.specs.Spelled.{ChannelJob}
use Rattle.job_file.specs.Meaning.{records}
use Rattle.bench_settings.specs.Placing.{placed_up_to}

-- the same messages under the actions at numbers up to as many as were made, which is how a report gives them
abbrev pub PlacedActionsSuffice : Type 0
PlacedActionsSuffice =
    (job : ChannelJob) (actions : List Placed) (made : ℕ) → length (records job actions) ≤ made
    → records job (placed_up_to made actions) ≡ records job actions
