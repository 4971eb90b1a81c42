use Rattle.bench_export.proofs.Putting.{time_none, time_put}
use Rattle.bench_export.proofs.signals.put_time.Goals as goal

pub returns-then-last-tick-clause-put : goal.returns-then-last-tick-clause-put
returns-then-last-tick-clause-put c = time_none _ c.args.last c.args.tick c.if-last-tick.true

pub returns-clause-put : goal.returns-clause-put
returns-clause-put c = time_put _ _ _ _ c.args.last c.args.tick c.if-last-tick.false c.put_byte-end.ensures.put c.put_number-end.ensures.put c.put_byte.ensures.put
