use Rattle.std.proofs.Common.{◌∙◌}
use Rattle.bench_judge.proofs.tallies.Tally.before.Goals as goal

pub returns : goal.returns
returns c = λ rule origins history is. c.at.ensures ∙ is c.args.channel
