-- A test of the last outcome.
use Rattle.std.specs.Prelude.{Bool, false, Option, Some, None}
use Rattle.mil_message.specs.declared.outcome_test.OutcomeTest.{OutcomeTest}
use Rattle.mil_bus.specs.declared.outcomes.Outcome.{Outcome}
use Rattle.bc_machine.specs.Controller.{holds}

-- false before any message
abbrev pub test_of : OutcomeTest → Option Outcome → Bool
test_of test None = false
test_of test (Some outcome) = holds test outcome
