use Rattle.bench_export.proofs.Putting.{byte_put}
use Rattle.bench_export.proofs.signals.put_byte.Goals as goal

pub returns-clause-put : goal.returns-clause-put
returns-clause-put c = byte_put c.args.room.now c.args.end c.args.byte c.requires.some c.requires.within
