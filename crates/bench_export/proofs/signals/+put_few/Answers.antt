use Rattle.std.proofs.Common.{◌-◌, arith}
use Rattle.bench_export.proofs.Putting.{few_last, few_more, few_none}
use Rattle.bench_export.proofs.signals.+put_few.Goals as goal

pub returns-then-most-eq0-clause-put : goal.returns-then-most-eq0-clause-put
returns-then-most-eq0-clause-put t c = few_none _ c.args.most c.args.value c.if-most-eq0.true

pub returns-then-value-lt2-clause-put : goal.returns-then-value-lt2-clause-put
returns-then-value-lt2-clause-put t c = few_last _ _ c.args.most c.args.value c.if-most-eq0.false c.if-value-lt2.true c.put_byte-at.ensures.put

pub returns-clause-put : goal.returns-clause-put
returns-clause-put t c =
    few_more _ _ _ (c.args.most - 1) c.args.most c.args.value (omega (arith, c.if-most-eq0.false)) c.if-value-lt2.false c.put_byte-at.ensures.put c.put_few.ensures.put
