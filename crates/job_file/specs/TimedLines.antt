-- What the lines of a job say by time and by command, beside what they say by number (own choice).
use Rattle.std.specs.Prelude.{ℕ, Bool, false, List, [], ◌∷◌, ◌++◌, length}
use Rattle.std.specs.List.{filter_map}
use Rattle.bc_machine.specs.Hosting.{insertion_of}
use Rattle.bc_machine.specs.declared.placed.HostAction.{HostAction}
use Rattle.mil_line.specs.declared.faults.Fault.{Fault}
use Rattle.job_moments.specs.Planning.{PlannedFault}
use Rattle.job_moments.specs.declared.moments.Moment.{Moment}
use Rattle.job_moments.specs.declared.occasions.Occasion.{Occasion}
use Rattle.job_file.specs.declared.timed.TimedAction.{TimedAction}

pub record Timed : Type 0 where
  -- the hosts' actions by time and by command, in the order of the text
  pub whens : List TimedAction
  -- the faults of all lines, those by number too, in the order of the text
  pub faults : List PlannedFault
  -- whether one of these lines is by time or by command
  pub is_timed : Bool

-- before any line
abbrev pub nothing_yet : Timed
nothing_yet = record { whens = []; faults = []; is_timed = false }

-- how many messages these actions have inserted
abbrev pub timed_inserts : List TimedAction → ℕ
timed_inserts whens = length (filter_map (λ (w : TimedAction). insertion_of w.action) whens)

-- one action more, or one fault, behind the others
abbrev pub with_when : Moment → HostAction → Timed → Timed
with_when moment action t = record t { whens = t.whens ++ record { moment = moment; action = action } ∷ [] }

abbrev pub with_fault : Occasion → Fault → Timed → Timed
with_fault occasion f t = record t { faults = t.faults ++ record { occasion = occasion; fault = f } ∷ [] }
