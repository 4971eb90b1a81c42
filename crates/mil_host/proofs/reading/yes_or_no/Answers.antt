use Rattle.std.proofs.Common.{refl}
use Rattle.mil_host.proofs.reading.yes_or_no.Goals as goal

pub returns-then-eq : goal.returns-then-eq
returns-then-eq c = rw (← c.eq.ensures, c.if-eq.true) refl

pub returns-then-eq-2 : goal.returns-then-eq-2
returns-then-eq-2 c = rw (← c.eq.ensures, c.if-eq.false, ← c.eq-else-eq.ensures, c.if-eq-2.true) refl

pub returns-else-eq-2 : goal.returns-else-eq-2
returns-else-eq-2 c = rw (← c.eq.ensures, c.if-eq.false, ← c.eq-else-eq.ensures, c.if-eq-2.false) refl
