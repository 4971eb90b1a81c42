-- The ranges that a job keeps.
use Rattle.std.specs.Prelude.{◌≡◌, ℕ, ◌≤◌, nat_le, Bool, true, ◌&&◌, List}
use Rattle.std.specs.List.{list_all, AllByRecursion}
use Rattle.mil_bus.specs.Addresses.{is_fit}
use Rattle.mil_line.specs.Ranges.{is_in_range}
use Rattle.job_moments.specs.Planning.{PlannedFault}
use Rattle.job_file.specs.HeadLines.{Head, has}
use Rattle.job_file.specs.TimedLines.{Timed}
use Rattle.job_file.specs.declared.timed.TimedAction.{TimedAction}
use Rattle.bc_machine.specs.declared.placed.Placed.{Placed}
use Rattle.bc_machine.specs.declared.placed.HostAction.{HostAction}
use Rattle.bc_machine.specs.declared.placed.HostAction.TheVariants.{Terminal, Controller}

-- an action is of one of these terminals, or of the controller
abbrev pub is_for : List ℕ → HostAction → Bool
is_for addresses (Terminal address action) = has address addresses
is_for addresses (Controller asked) = true

-- an action of one of these terminals or of the controller, at a message that a channel may have
abbrev pub may_act : List ℕ → Placed → Bool
may_act addresses placed = nat_le 1 placed.number && nat_le placed.number 1000000 && is_for addresses placed.action

-- what is said by time and by command: each action is of one of these terminals or of the controller, each fault is in
-- its ranges
pub record IsFitTimed (addresses : List ℕ) (t : Timed) : Type 0 where
  pub whens : list_all (λ (w : TimedAction). is_for addresses w.action) t.whens ≡ true
  pub faults : list_all (λ (p : PlannedFault). is_in_range p.fault) t.faults ≡ true

pub record IsFit (h : Head) : Type 0 where
  pub channels : AllByRecursion (λ n. (1 ≤ n) × (n ≤ 65535)) h.channels
  pub starts : AllByRecursion (λ n. n ≤ 140737488355328) h.starts
  -- each address is at most 30 and stands once
  pub addresses : is_fit h.addresses ≡ true
  pub actions : list_all (may_act h.addresses) h.actions ≡ true
  pub timed : IsFitTimed h.addresses h.timed
