use Rattle.controller_text.proofs.Printed.{data_written, ramp_written}
use Rattle.controller_text.proofs.printing.ControlTextDisplay.fmt.Goals as goal

pub returns-in-Data-clause-writes : goal.returns-in-Data-clause-writes
returns-in-Data-clause-writes g c =
    rw (c.in-Data.is, data_written c.in-Data.new) (rw (c.destination.ensures.value, c.words.ensures.value) at c.write.ensures.writes)

pub returns-in-Ramp-clause-writes : goal.returns-in-Ramp-clause-writes
returns-in-Ramp-clause-writes g c =
    rw (c.in-Ramp.is, ramp_written c.in-Ramp.ramp)
    (rw (c.destination-in-Ramp.ensures, c.place-place.ensures.value, c.start.ensures, c.add.ensures) at c.write-in-Ramp.ensures.writes)
