use Rattle.std.proofs.Common.{◌≡◌, List, subst}
use Rattle.frame_asm.specs.Shapes.{code_of_tree}
use Rattle.job_file.specs.Jobs.{tree_in, job_in}
use Rattle.job_file.specs.Meaning.{bus_of}
use Rattle.job_file.specs.Machines.{IsOf}
use Rattle.bc_machine.specs.Running.{started}
use Rattle.bc_machine.specs.declared.placed.Placed.{Placed}
use Rattle.bench_check.proofs.Told.{told_nothing}
use Rattle.bench_check.proofs.Tried.{tried_begins}
use Rattle.bench_check.proofs.trying.Trial.begin.Goals as goal

pub returns-clause-tried : goal.returns-clause-tried
returns-clause-tried c =
    let job = c.args.job.now in
    let machine = c.in_ok-machine.machine in
    tried_begins job _
    (subst (λ (placed : List Placed). machine ≡ started (code_of_tree (tree_in job)) (bus_of (job_in job)) job.plan placed) c.actions.ensures.value c.in_ok-machine.ensures.value)
    (subst (λ (placed : List Placed). IsOf (job_in job) placed machine) c.actions.ensures.value c.in_ok-machine.ensures.of_job)
    c.new-unmet.ensures.items c.new-overruns.ensures.items

pub returns-clause-told : goal.returns-clause-told
returns-clause-told c = λ got.
    let job = c.args.job.now in
    let machine = c.in_ok-machine.machine in
    told_nothing job machine got
    (subst (λ (placed : List Placed). machine ≡ started (code_of_tree (tree_in job)) (bus_of (job_in job)) job.plan placed) c.actions.ensures.value c.in_ok-machine.ensures.value)
