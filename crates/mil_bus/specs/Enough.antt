-- How many runs an exchange can have.
use Rattle.std.specs.Prelude.{◌≡◌, ℕ, ◌+◌, List, [], Some}
use Rattle.mil_word.specs.declared.Line.{Line}
use Rattle.mil_line.specs.declared.faults.Fault.{Fault}
use Rattle.mil_terminal.specs.Station.{Station}
use Rattle.mil_bus.specs.Exchange.{Offer, runs, most_runs}

-- whatever the first sender gives, forty runs and any more of them come to the same words and the same histories
abbrev pub FortyRunsAreEnough : Type 0
FortyRunsAreEnough =
    (more : ℕ) (line : Line) (faults : List Fault) (offer : Offer) (stations : List Station)
    → runs (most_runs + more) line faults 0 (Some offer) (record { sent = []; stations = stations })
    ≡ runs most_runs line faults 0 (Some offer) (record { sent = []; stations = stations })
