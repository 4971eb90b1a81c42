use Rattle.signal_judge.proofs.Tallying.{tally-none}
use Rattle.signal_judge.proofs.tallies.SignalTally.new.Goals as goal

pub returns : goal.returns
returns c = λ r origins. tally-none r origins _ (c.new.ensures r.rule origins) c.new-2.ensures.empty
