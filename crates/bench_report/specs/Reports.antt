-- A run's report: for each channel, in the order of the jobs, how many messages it made, which of them a full queue
-- refused, and the hosts' actions that were placed; and how many packets were written (own choice).
use Rattle.std.specs.Prelude.{ℕ, ◌≤◌, ◌<◌, List, [], ◌∷◌, All}
use Rattle.mil_word.specs.Fields.{highest_address}
use Rattle.mil_host.specs.Ranges.{IsInRange}
use Rattle.controller_host.specs.Ranges.{IsControl}
use Rattle.bc_machine.specs.declared.placed.Placed.{Placed}
use Rattle.bc_machine.specs.declared.placed.HostAction.{HostAction}
use Rattle.bc_machine.specs.declared.placed.HostAction.TheVariants.{Terminal, Controller}

-- what contracts see of the report of one channel
pub record ChannelPart : Type 0 where
  pub channel : ℕ
  pub made : ℕ
  pub refused : List ℕ
  pub placed : List Placed

-- what they see of the report of a run
pub record RunReport : Type 0 where
  pub channels : List ChannelPart
  pub packets : ℕ

-- numbers that rise, all of them above one number and none over another
abbrev pub Rises : ℕ → ℕ → List ℕ → Type 0
Rises above most [] = Unit {0}
Rises above most (n ∷ ns) = (above < n) × (n ≤ most) × Rises n most ns

-- the numbers of placed actions never fall, and none is below this one
abbrev pub NeverFalls : ℕ → List Placed → Type 0
NeverFalls least [] = Unit {0}
NeverFalls least (p ∷ ps) = (least ≤ p.number) × NeverFalls p.number ps

-- an action for the address of a terminal, or for the controller
abbrev pub IsForPlace : HostAction → Type 0
IsForPlace (Terminal address action) = address ≤ highest_address
IsForPlace (Controller asked) = Unit {0}

-- the number of a message, and an action for a terminal or for the controller
pub record IsPlace (p : Placed) : Type 0 where
  pub number_low : 1 ≤ p.number
  pub number_high : p.number ≤ 1000000
  pub address : IsForPlace p.action

-- the values of an action are in their ranges
abbrev pub IsHostAction : HostAction → Type 0
IsHostAction (Terminal address action) = IsInRange action
IsHostAction (Controller asked) = IsControl asked

-- the same, with an action whose values are in their ranges
pub record IsPlaced (p : Placed) : Type 0 where
  pub place : IsPlace p
  pub action : IsHostAction p.action

pub record IsPart (p : ChannelPart) : Type 0 where
  pub channel_low : 1 ≤ p.channel
  pub channel_high : p.channel ≤ 65535
  pub made : p.made ≤ 1000000
  pub refused : Rises 0 p.made p.refused
  pub placed : All IsPlaced p.placed
  pub order : NeverFalls 0 p.placed

-- each part of a report is one, and packets have at most ten digits
pub record IsReport (r : RunReport) : Type 0 where
  pub parts : All IsPart r.channels
  pub packets : r.packets ≤ 9999999999
