use Rattle.std.proofs.Common.{false, refl}
use Rattle.bench_dump.proofs.Streamed.{plain_dumps}
use Rattle.bench_dump.proofs.streaming.print_packets.Goals as goal

pub returns : goal.returns
returns g c file is = plain_dumps _ false c.print_packets_by.result file _ _ c.unset-clock.ensures refl (c.print_packets_by.ensures file is)
