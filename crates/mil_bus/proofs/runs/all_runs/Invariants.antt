use Rattle.std.proofs.Common.{◌≡◌, ◌-◌, Some}
use Rattle.mil_bus.specs.Exchange.{runs}
use Rattle.mil_bus.specs.Offers.{offered}
use Rattle.mil_bus.proofs.runs.all_runs.Given as goal

-- the runs to come make of what is what all make of the start
abbrev pub invariant-loop-run : goal.invariant-loop-run
invariant-loop-run l =
    runs (40 - l.run) l.line l.faults l.run (Some (offered l.offer)) (record { sent = l.sent.items; stations = l.terminals })
    ≡ runs 40 l.line l.faults 0 (Some (offered l.fn.offer)) (record { sent = l.fn.sent.items; stations = l.fn.terminals })
