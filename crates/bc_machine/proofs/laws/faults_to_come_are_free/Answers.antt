use Rattle.bc_machine.proofs.Posted.{free_of_faults, halts_planned}
use Rattle.bc_machine.proofs.laws.faults_to_come_are_free.Goals as goal

pub returns-clause-free : goal.returns-clause-free
returns-clause-free c = free_of_faults

pub returns-clause-halts : goal.returns-clause-halts
returns-clause-halts c = halts_planned
