use Rattle.std.proofs.Common.{rules}
use Rattle.mil_bus.specs.Exchange.{talk_of}
use Rattle.bench_one.specs.One.{only_talk}
use Rattle.bench_one.proofs.single.only_talk.Goals as goal

pub returns-in-Ok-clause-talk : goal.returns-in-Ok-clause-talk
unfolding only_talk
returns-in-Ok-clause-talk c = search rules

pub returns-in-Ok-clause-start : goal.returns-in-Ok-clause-start
unfolding talk_of
returns-in-Ok-clause-start c = search rules
