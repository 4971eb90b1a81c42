use Rattle.bench_judge.proofs.Missing.{packet_counted}
use Rattle.bench_judge.proofs.packets.PacketTally.note.Goals as goal

pub returns : goal.returns
returns c = λ packets few is.
    packet_counted c.args.rule.now packets c.args.packet.now c.args.self.now _ few is (rw c.selects_packet.ensures at c.one_more-self.ensures) (rw c.misses_packet.ensures at c.one_more-self-2.ensures)
