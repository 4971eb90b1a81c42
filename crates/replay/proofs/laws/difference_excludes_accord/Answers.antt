use Rattle.replay.proofs.Excluding.{excluded}
use Rattle.replay.proofs.laws.difference_excludes_accord.Goals as goal

pub returns : goal.returns
returns c jobs parts found channel number first agrees = excluded jobs parts found channel number first agrees
