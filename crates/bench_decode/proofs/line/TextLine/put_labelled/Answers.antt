use Rattle.bench_decode.proofs.Drawing.{told-told}
use Rattle.bench_decode.proofs.line.TextLine.put_labelled.Goals as goal

pub returns-clause-put : goal.returns-clause-put
returns-clause-put c = rw (c.put_number.ensures.put, c.put.ensures.put) (told-told _ _ _)
