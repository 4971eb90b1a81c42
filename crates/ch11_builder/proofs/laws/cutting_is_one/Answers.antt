use Rattle.ch11_builder.proofs.Cuts.{cut_is_a_cutting}
use Rattle.ch11_builder.proofs.OnlyCut.{cutting_is_the_cut}
use Rattle.ch11_builder.proofs.laws.cutting_is_one.Goals as goal

pub returns-clause-exists : goal.returns-clause-exists
returns-clause-exists c = cut_is_a_cutting

pub returns-clause-unique : goal.returns-clause-unique
returns-clause-unique c = cutting_is_the_cut
