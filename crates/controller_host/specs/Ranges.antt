-- The ranges of the values of what the host of a controller asks for.
use Rattle.std.specs.Prelude.{◌≤◌, ◌<◌, All}
use Rattle.mil_message.specs.Forms.{data_words}
use Rattle.mil_message.specs.Rules.{IsLawful}
use Rattle.controller_host.specs.declared.controls.Control.{Control}
use Rattle.controller_host.specs.declared.controls.Control.TheVariants.{Data, Ramp, Insert}
use Rattle.controller_host.specs.Destinations.{IsPlace}
use Rattle.controller_host.specs.Values.{RampValue, InsertionValue, AreNewWords, latest_tick}

pub record IsRamp (r : RampValue) : Type 0 where
  pub place : IsPlace r.destination r.place
  pub start : r.start < 65536
  pub add : r.add < 65536

pub record IsInsertion (x : InsertionValue) : Type 0 where
  pub tick : x.tick ≤ latest_tick
  pub message : IsLawful x.message
  pub words : All (λ w. w < 65536) (data_words x.message)

-- each value is in its range
abbrev pub IsControl : Control → Type 0
IsControl (Data new) = AreNewWords new × All (λ w. w < 65536) new.words
IsControl (Ramp ramp) = IsRamp ramp
IsControl (Insert insertion) = IsInsertion insertion
