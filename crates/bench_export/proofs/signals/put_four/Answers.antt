use Rattle.bench_export.proofs.signals.put_four.Goals as goal
use Rattle.std.proofs.Common.{refl}

pub returns-clause-put : goal.returns-clause-put
returns-clause-put c = rw (c.put_byte.ensures.put, c.put_byte-end-3.ensures.put, c.put_byte-end-2.ensures.put, c.put_byte-end.ensures.put) refl
