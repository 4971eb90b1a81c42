use Rattle.mil_bus.proofs.EnoughRuns.{forty}
use Rattle.mil_bus.proofs.laws.forty_runs_are_enough.Goals as goal

pub returns : goal.returns
returns c = forty
