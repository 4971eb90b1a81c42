-- How much room of a run's queue a job may take (own choice).
use Rattle.std.specs.Prelude.{ℕ, ◌+◌, max}
use Rattle.frame_asm.specs.Shapes.{code_of_tree}
use Rattle.frame_load.specs.Budget.{worst_messages}
use Rattle.job_file.specs.Jobs.{JobState, tree_in, own_inserts, said_inserts}

-- how many items a channel offers at most where up to so many actions are posted to it: one for each message that its
-- script may send, one for each that a line of the job or a post may have inserted, and its end mark
abbrev pub most_items : ℕ → JobState → ℕ
most_items posts job = worst_messages (code_of_tree (tree_in job)).operations
    + max (own_inserts job.actions) (said_inserts job) + posts + 1
