use Rattle.bench_complete.proofs.Standing.{own_written}
use Rattle.bench_complete.proofs.lanes.Lanes.write.Goals as goal

pub returns-in-Recorded-clause-written : goal.returns-in-Recorded-clause-written
returns-in-Recorded-clause-written g c =
    own_written c.write_packet.result c.args.self.now.packets.now c.args.self.now.times c.args.head.now c.in-Recorded.place _ c.args.original.now (g.W.Write.contents c.args.out.now)
    (g.W.Write.contents c.write_packet.new.out) c.in-Recorded.is c.write_packet.ensures.written
