use Rattle.bench_export.proofs.Putting.{code_put}
use Rattle.bench_export.proofs.signals.put_code.Goals as goal

pub returns-clause-put : goal.returns-clause-put
returns-clause-put c =
    code_put _ _ _ _ _ c.args.letter c.letter_of.result c.args.wire.on_b c.args.wire.channel c.letter_of.ensures c.put_byte-end.ensures.put c.put_channel-end.ensures.put c.put_byte-end-2.ensures.put c.put_byte.ensures.put
