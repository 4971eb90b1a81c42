use Rattle.bc_machine.proofs.Posted.{free, halts_alike}
use Rattle.bc_machine.proofs.laws.actions_to_come_are_free.Goals as goal

pub returns-clause-free : goal.returns-clause-free
returns-clause-free c = free

pub returns-clause-halts : goal.returns-clause-halts
returns-clause-halts c = halts_alike
