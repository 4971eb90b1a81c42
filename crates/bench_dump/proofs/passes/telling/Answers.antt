use Rattle.std.proofs.Common.{Bool}
use Rattle.bench_dump.proofs.Refused.{failed_alike}
use Rattle.bench_dump.proofs.passes.telling.Goals as goal

pub returns-in-Err-clause-dumped : goal.returns-in-Err-clause-dumped
returns-in-Err-clause-dumped c clock file got gets is =
    failed_alike (Unit {0}) Bool clock c.in-Err.fault file got gets (rw c.in-Err.is at is)
