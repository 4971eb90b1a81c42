use Rattle.ch11_stream.proofs.taking.take_next.Goals as goal

pub take_packet-requires : goal.take_packet-requires
take_packet-requires g c = let h = rw c.in-Some.is at c.in_ok-header.ensures in h.0
