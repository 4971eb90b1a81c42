-- A job before any step.
use Rattle.std.proofs.Common.{◌≡◌, ℕ, ◌+◌, List, [], ◌++◌, ap, sym, ◌∙◌, arith}
use Rattle.frame_asm.specs.Shapes.{code_of_tree}
use Rattle.frame_load.specs.Budget.{budget}
use Rattle.bc_machine.specs.Running.{MachineState, most_inserted}
use Rattle.job_file.specs.Jobs.{JobState, tree_in, job_in}
use Rattle.job_file.specs.Machines.{IsOf}
use Rattle.bench_check.specs.declared.frames.Overrun.{Overrun}
use Rattle.bench_check.specs.declared.trying.Trial.{Trial}
use Rattle.bench_check.specs.Overruns.{beginning_of, overruns_in}
use Rattle.bench_check.specs.Trying.{steps_left, IsTried}
use Rattle.bench_check.specs.Unmet.{unmet_up_to}

pub tried_begins : (job : JobState) (t : Trial) → t.machine ≡ beginning_of job → IsOf (job_in job) job.actions t.machine → t.unmet.items ≡ [] → t.overruns.items ≡ [] → IsTried job t
tried_begins job t is of none nothing =
    let all : steps_left (beginning_of job) ≡ budget (code_of_tree (tree_in job)).operations + most_inserted (code_of_tree (tree_in job)) = omega arith in
    record {
      of = of;
      unmet = none ∙ sym (ap (λ (m : MachineState). unmet_up_to job m.point.number) is);
      overruns =
          ap (λ (xs : List Overrun). xs ++ overruns_in (steps_left t.machine) t.machine) nothing
          ∙ ap (λ (m : MachineState). overruns_in (steps_left m) m) is
          ∙ ap (λ (k : ℕ). overruns_in k (beginning_of job)) all;
    }
