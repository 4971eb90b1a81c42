-- What lines say by time and by command, as plain data.
use Rattle.std.specs.Prelude.{map, All}
use Rattle.job_moments.specs.Planning.{PlannedFault, MayStand}
use Rattle.job_file.specs.TimedLines.{Timed}
use Rattle.job_file.specs.declared.timed.TimedFault.{TimedFault}
use Rattle.job_file.specs.declared.timed.TimedLines.TheInside.{Inside}

abbrev pub planned_by : TimedFault → PlannedFault
planned_by f = record { occasion = f.occasion; fault = f.fault }

abbrev pub timed_in : Inside → Timed
timed_in t = record {
  whens = t.whens.items;
  faults = map planned_by t.faults.items;
  is_timed = t.is_timed;
}

-- a fault's turns are some places apart
abbrev pub IsSaid : TimedFault → Type 0
IsSaid f = MayStand f.occasion

abbrev pub AllMayStand : Inside → Type 0
AllMayStand t = All IsSaid t.faults.items
