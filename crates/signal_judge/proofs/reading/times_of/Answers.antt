use Rattle.judge_rules.proofs.Ranges.{range_span}
use Rattle.signal_judge.proofs.reading.times_of.Goals as goal

pub returns-clause-range : goal.returns-clause-range
returns-clause-range c = rw c.read_span.ensures.value (range_span c.args.words.now)
