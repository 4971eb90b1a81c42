use Rattle.std.proofs.Common.{◌≡◌, ◌+◌, ◌/◌, ◌%◌, ◌∷◌, ◌++◌, [], arith, refl}
use Rattle.std.specs.Prelude.{decimal}
use Rattle.std.proofs.lemmas.Fmt.{decimal_digit, decimal_step}
use Rattle.bench_decode.proofs.line.TextLine.put_small.Goals as goal

pub returns-then-number-lt10-clause-put : goal.returns-then-number-lt10-clause-put
returns-then-number-lt10-clause-put c = rw (decimal_digit c.args.number c.if-number-lt10.true) c.put.ensures.put

pub returns-then-number-lt100-clause-put : goal.returns-then-number-lt100-clause-put
returns-then-number-lt100-clause-put c =
    rw (decimal_step c.args.number c.if-number-lt10.false (omega arith), decimal_digit (c.args.number / 10) (omega arith)) c.put-then-number-lt100.ensures.put
