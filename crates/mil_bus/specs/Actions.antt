-- An action of the host of one terminal.
use Rattle.std.specs.Prelude.{ℕ, ◌==◌, if◌then◌else◌, List, [], ◌∷◌, Option, Some, None}
use Rattle.std.specs.Option.{option_map}
use Rattle.std.proofs.Common.{suc}
use Rattle.mil_host.specs.declared.actions.Action.{Action}
use Rattle.mil_terminal.specs.declared.events.Event.TheVariants.{Host}
use Rattle.mil_terminal.specs.Station.{Station, after}
use Rattle.mil_bus.specs.Exchange.{BusState}

-- the place of the first station with this address
abbrev pub place_of : ℕ → List Station → Option ℕ
place_of address [] = None
place_of address (s ∷ ss) = if s.own == address then Some 0 else option_map (λ k. suc k) (place_of address ss)

-- the first station with this address
abbrev pub station_of : ℕ → List Station → Option Station
station_of address [] = None
station_of address (s ∷ ss) = if s.own == address then Some s else station_of address ss

-- the first station with this address, and it alone, has met the action
abbrev pub acting : ℕ → Action → List Station → List Station
acting address action [] = []
acting address action (s ∷ ss) = if s.own == address then after s (Host action) ∷ ss else s ∷ acting address action ss

abbrev pub acted : BusState → ℕ → Action → BusState
acted b address action = record {
  start = b.start;
  least_start = b.least_start;
  talks = b.talks;
  stations = acting address action b.stations;
}
