use Rattle.bc_machine.proofs.Stays.{faults_untold, actions_untold}
use Rattle.bc_machine.proofs.laws.next_message_stays.Goals as goal

pub returns-clause-faults : goal.returns-clause-faults
returns-clause-faults c = faults_untold

pub returns-clause-actions : goal.returns-clause-actions
returns-clause-actions c = actions_untold
