use Rattle.bench_decode.proofs.Sorted.{fault_found}
use Rattle.bench_decode.proofs.by_time.read_whole.Goals as goal

pub returns-in-Err-clause-fault : goal.returns-in-Err-clause-fault
returns-in-Err-clause-fault c = fault_found c.args.bytes.now c.in-Err.fault c.in-Err.ensures
