-- What a bus keeps of its talks.
use Rattle.std.specs.Prelude.{◌≡◌, ℕ, ◌≤◌, unwrap_or, List, [], ◌∷◌, Option, Some, None}
use Rattle.mil_word.specs.declared.Line.TheVariants.{A, B}
use Rattle.mil_terminal.specs.Station.{Station}
use Rattle.mil_bus.specs.declared.talks.Talk.{Talk}
use Rattle.mil_bus.specs.declared.times.Times.{Times}
use Rattle.mil_bus.specs.Exchange.{BusState, clock_of, least_after, last_on}

abbrev pub least_of : List Talk → Option ℕ
least_of [] = None
least_of (t ∷ ts) = Some (least_after t)

pub record KeepsTimes (kept : Times) (talks : List Talk) : Type 0 where
  pub clock_is : kept.clock ≡ clock_of kept.begin talks
  pub least_is : kept.least ≡ least_of talks
  pub on_a_is : kept.on_a ≡ last_on A talks
  pub on_b_is : kept.on_b ≡ last_on B talks
  pub on_a_past : unwrap_or kept.on_a 0 ≤ kept.clock
  pub on_b_past : unwrap_or kept.on_b 0 ≤ kept.clock

-- the bus of what is kept of its talks, and its terminals
abbrev pub bus_of : Times → List Talk → List Station → BusState
bus_of kept talks stations = record {
  start = kept.begin;
  least_start = kept.least_start;
  talks = talks;
  stations = stations;
}
