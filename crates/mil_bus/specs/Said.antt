-- What the runs of an exchange come to, one by one (inside the bus).
use Rattle.std.specs.Prelude.{◌≡◌, ℕ, ◌-◌, List, ◌++◌, length}
use Rattle.mil_word.specs.declared.Line.{Line}
use Rattle.mil_line.specs.declared.faults.Fault.{Fault}
use Rattle.mil_line.specs.Ranges.{most_sent}
use Rattle.mil_bus.specs.Exchange.{Offer, Standing, run_sent, all_hearing}

-- what comes on the line of a run, as far as there is room for it, stands behind the words sent, and came to all
-- stations
pub record IsSaid (line : Line) (faults : List Fault) (run : ℕ) (offer : Offer) (old new : Standing) : Type 0 where
  pub sent : new.sent ≡ old.sent ++ run_sent (most_sent - length old.sent) faults run offer
  pub stations : new.stations ≡ all_hearing line (run_sent (most_sent - length old.sent) faults run offer) old.stations
