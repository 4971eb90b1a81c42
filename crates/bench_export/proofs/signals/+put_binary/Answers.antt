use Rattle.std.proofs.Common.{◌-◌, arith}
use Rattle.bench_export.proofs.Putting.{fours_more}
use Rattle.bench_export.proofs.signals.+put_binary.Goals as goal

pub returns-clause-put : goal.returns-clause-put
returns-clause-put t c =
    fours_more _ _ _ (c.args.most - 4) c.args.most c.args.value (omega (arith, c.if-most-lt4.false)) c.if-value-lt16.false c.put_four-at.ensures.put c.put_binary.ensures.put
