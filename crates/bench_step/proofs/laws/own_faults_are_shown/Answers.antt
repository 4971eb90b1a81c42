use Rattle.bench_step.proofs.OwnFaults.{own_faults_shown}
use Rattle.bench_step.proofs.laws.own_faults_are_shown.Goals as goal

pub returns : goal.returns
returns c = own_faults_shown
