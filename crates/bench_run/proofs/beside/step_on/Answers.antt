use Rattle.bench_run.proofs.Turning.{steps_on}
use Rattle.bench_run.proofs.beside.step_on.Goals as goal

pub returns : goal.returns
returns c =
    let r = c.args.run.now in
    let p = c.in_ok-plan.ensures in
    let s = c.step.ensures in
    steps_on c.step.result r c.plan.new.self c.step.new.self p.faulted p.kept p.whens p.faults s.stepped s.tells s.whens s.faults s.kept s.planned s.less s.ended
