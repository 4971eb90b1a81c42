use Rattle.std.proofs.Common.{refl}
use Rattle.bench_dump.proofs.Refused.{first_fault, not_both, other_fault}
use Rattle.bench_dump.proofs.passes.dump.Goals as goal

pub returns-in-Ok-clause-refused : goal.returns-in-Ok-clause-refused
returns-in-Ok-clause-refused g c file r is refused = absurd (not_both file _ r (c.in-Ok.ensures file is).0 refused)

pub returns-in-Ok-clause-dumped : goal.returns-in-Ok-clause-dumped
returns-in-Ok-clause-dumped g c file other is then read = c.print_packets.ensures other then

pub returns-in-Err-clause-refused : goal.returns-in-Err-clause-refused
returns-in-Err-clause-refused g c file r is refused = (refl, first_fault (Unit {0}) file r c.in-Err.fault (c.in-Err.ensures file is) refused)

pub returns-in-Err-clause-dumped : goal.returns-in-Err-clause-dumped
returns-in-Err-clause-dumped g c file other is then read = other_fault file other _ c.in-Err.fault (c.in-Err.ensures file is) read
