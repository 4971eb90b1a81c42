use Rattle.mil_host.proofs.Printed.{transmit_written}
use Rattle.mil_host.proofs.printing.ActionDisplay.fmt.Goals as goal

pub returns-in-Transmit-clause-writes : goal.returns-in-Transmit-clause-writes
returns-in-Transmit-clause-writes g c =
    rw (c.in-Transmit.is, transmit_written c.in-Transmit.put) (rw (c.sub-sub.ensures.value, c.words.ensures.value) at c.write.ensures.writes)
