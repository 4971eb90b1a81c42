-- The ranges of an action's values.
use Rattle.std.specs.Prelude.{◌≤◌, ◌<◌, length, All}
use Rattle.mil_word.specs.Timing.{least_response, latest_response}
use Rattle.mil_word.specs.Fields.{greatest_field, highest_put_up, highest_subaddress, most_words}
use Rattle.mil_host.specs.Values.{PutUp, Marked, Ramped, least_set_gap, most_set_gap}
use Rattle.mil_host.specs.declared.actions.Action.{Action}
use Rattle.mil_host.specs.declared.actions.Action.TheVariants.{Transmit, Busy, Service, Subsystem, Fault, Control}
use Rattle.mil_host.specs.declared.actions.Action.TheVariants.{Vector, SelfTest, Illegal, Legal, Response, Deaf, Mute}
use Rattle.mil_host.specs.declared.actions.Action.TheVariants.{IllegalMode, LegalMode, Broadcast, Power, BitWord}
use Rattle.mil_host.specs.declared.actions.Action.TheVariants.{ServiceOnce, Gap, Ramp}

-- a subaddress of 1 to 29, and 1 to 32 data words of 16 bits
pub record IsPutUp (put : PutUp) : Type 0 where
  pub sub_low : 1 ≤ put.sub
  pub sub_high : put.sub ≤ highest_put_up
  pub some : 1 ≤ length put.words
  pub few : length put.words ≤ most_words
  pub of_16_bits : All (λ w. w < 65536) put.words

-- a subaddress of 1 to 30, and a count of 1 to 32
pub record IsMark (mark : Marked) : Type 0 where
  pub sub_low : 1 ≤ mark.sub
  pub sub_high : mark.sub ≤ highest_subaddress
  pub count_low : 1 ≤ mark.count
  pub count_high : mark.count ≤ most_words

-- a subaddress of 1 to 29, a place of 1 to 32, and two words of 16 bits
pub record IsRamp (ramp : Ramped) : Type 0 where
  pub sub_low : 1 ≤ ramp.sub
  pub sub_high : ramp.sub ≤ highest_put_up
  pub index_low : 1 ≤ ramp.index
  pub index_high : ramp.index ≤ most_words
  pub start_16_bits : ramp.start < 65536
  pub add_16_bits : ramp.add < 65536

-- each value of an action is in its range
abbrev pub IsInRange : Action → Type 0
IsInRange (Transmit put) = IsPutUp put
IsInRange (Busy on) = Unit {0}
IsInRange (Service on) = Unit {0}
IsInRange (Subsystem on) = Unit {0}
IsInRange (Fault on) = Unit {0}
IsInRange (Control on) = Unit {0}
IsInRange (Vector value) = value < 65536
IsInRange (SelfTest value) = value < 65536
IsInRange (Illegal mark) = IsMark mark
IsInRange (Legal mark) = IsMark mark
IsInRange (Response ticks) = (least_response ≤ ticks) × (ticks ≤ latest_response)
IsInRange (Deaf line on) = Unit {0}
IsInRange (Mute line on) = Unit {0}
IsInRange (IllegalMode mark) = mark.code ≤ greatest_field
IsInRange (LegalMode mark) = mark.code ≤ greatest_field
IsInRange (Broadcast on) = Unit {0}
IsInRange (Power on) = Unit {0}
IsInRange (BitWord value) = value < 65536
IsInRange ServiceOnce = Unit {0}
IsInRange (Gap ticks) = (least_set_gap ≤ ticks) × (ticks ≤ most_set_gap)
IsInRange (Ramp ramp) = IsRamp ramp
