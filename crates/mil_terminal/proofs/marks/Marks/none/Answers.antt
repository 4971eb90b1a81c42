use Rattle.mil_terminal.proofs.Bits.{none_set, no_mode_set}
use Rattle.mil_terminal.proofs.marks.Marks.none.Goals as goal

pub returns-clause-none : goal.returns-clause-none
returns-clause-none c = none_set

pub returns-clause-no_modes : goal.returns-clause-no_modes
returns-clause-no_modes c = no_mode_set
