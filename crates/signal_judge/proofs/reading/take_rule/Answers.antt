use Rattle.std.proofs.Common.{◌≡◌, arith, inl, inr, refl}
use Rattle.signal_judge.specs.Taking.{many}
use Rattle.signal_judge.proofs.reading.take_rule.Goals as goal

pub returns-then-full-clause-fault : goal.returns-then-full-clause-fault
returns-then-full-clause-fault c =
    let same : c.count-found.result ≡ many c.args.rules.now = c.count-found.ensures (omega (arith, c.requires)) in
    inl (refl, omega (arith, same, c.if-full.true))

pub returns-then-taken-clause-taken : goal.returns-then-taken-clause-taken
returns-then-taken-clause-taken c =
    let same : c.count-found.result ≡ many c.args.rules.now = c.count-found.ensures (omega (arith, c.requires)) in
    (c.take-taken.ensures c.if-taken.true, omega (arith, same, c.if-full.false))

pub returns-else-taken-clause-fault : goal.returns-else-taken-clause-fault
returns-else-taken-clause-fault c =
    let same : c.count-found.result ≡ many c.args.rules.now = c.count-found.ensures (omega (arith, c.requires)) in
    inr (refl, omega (arith, same, c.if-full.false))
