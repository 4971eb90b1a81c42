use Rattle.judge_rules.proofs.Ranges.{range_channel}
use Rattle.signal_judge.proofs.reading.channel_of.Goals as goal

pub returns-clause-range : goal.returns-clause-range
returns-clause-range c = rw c.read_channel.ensures.value (range_channel c.args.words.now)
