use Rattle.std.proofs.Common.{List, ◌≤◌}
use Rattle.bc_machine.specs.declared.placed.Placed.{Placed}
use Rattle.frame_tree.specs.Bounds.{IsSound}
use Rattle.job_file.specs.Machines.{IsOf}
use Rattle.job_file.specs.Meaning.{records}
use Rattle.job_file.specs.Spelled.{ChannelJob}
use Rattle.bench_reproduce.proofs.Beside.{IsAt}
use Rattle.bench_reproduce.proofs.judging.compare_all.Given as goal

-- whatever job and placed actions the controller was of at first
abbrev pub invariant-messages : goal.invariant-messages
invariant-messages l = record {
  small : l.standing.same ≤ l.place;
  of_job : (job : ChannelJob) (placed : List Placed) → IsOf job placed l.initial.machine → IsOf job placed l.machine;
  compared : (job : ChannelJob) (placed : List Placed) → IsSound job.tree → IsOf job placed l.initial.machine
      → IsAt l.heard (records job placed) l.place l.machine.point.number l.standing;
}
