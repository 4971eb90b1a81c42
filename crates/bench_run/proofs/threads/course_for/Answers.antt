use Rattle.std.proofs.Common.{List, ap, subst}
use Rattle.bc_machine.specs.declared.placed.Placed.{Placed}
use Rattle.bc_machine.specs.Running.{MachineState}
use Rattle.job_file.specs.Jobs.{job_in}
use Rattle.job_file.specs.Machines.{IsOf}
use Rattle.bench_run.proofs.Courses.{course_by_number, course_beside}
use Rattle.bench_run.proofs.threads.course_for.Goals as goal

pub returns-then-goes_beside : goal.returns-then-goes_beside
returns-then-goes_beside c p left ordered =
    let so = c.goes_beside.ensures.yes c.if-goes_beside.true in
    let run = c.in_ok-begin.ensures in
    course_beside c.args.is_live c.args.most c.args.job.now c.in_ok-begin.field-0 so.0 so.1 run.beginning run.faults run.kept run.planned p left

pub returns : goal.returns
returns c p left ordered =
    let made = c.in_ok-machine.ensures in
    course_by_number c.args.is_live c.args.job.now c.in_ok-machine.machine c.room.new.self c.args.most c.in_ok-room.ensures.made c.room.ensures.under_way (subst (λ (ps : List Placed). IsOf (job_in c.args.job.now) ps c.in_ok-machine.machine) c.actions.ensures.value made.of_job) (ap (λ (m : MachineState). m.point.number) made.value)
    (c.goes_beside.ensures.no c.if-goes_beside.false) p ordered
