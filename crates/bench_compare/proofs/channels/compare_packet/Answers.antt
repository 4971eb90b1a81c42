use Rattle.std.proofs.lemmas.Bool.{eq-eqb}
use Rattle.bench_compare.proofs.channels.compare_packet.Goals as goal

pub returns-then-packet-asked-clause-compared : goal.returns-then-packet-asked-clause-compared
returns-then-packet-asked-clause-compared g c = λ file other qs way read.
    rw (eq-eqb c.args.packet.now.header.channel c.args.asked.now.first.channel c.if-packet-asked.true) (c.compare_messages.ensures.compared file other qs way read)
