use Rattle.ch11_reader.proofs.Joined.{recordings_join, others_are_silent}
use Rattle.ch11_reader.proofs.laws.recordings_join.Goals as goal

pub returns-clause-join : goal.returns-clause-join
returns-clause-join c = recordings_join

pub returns-clause-silent : goal.returns-clause-silent
returns-clause-silent c = others_are_silent
