use Rattle.bench_decode.proofs.Drawing.{told-told}
use Rattle.bench_decode.proofs.line.TextLine.put_word.Goals as goal

pub returns-clause-put : goal.returns-clause-put
returns-clause-put c = rw (c.put_digits.ensures.put, c.put.ensures.put) (told-told _ _ _)
