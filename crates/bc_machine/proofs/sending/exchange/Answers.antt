use Rattle.std.proofs.Common.{ap, ◌∙◌}
use Rattle.mil_monitor.specs.Observed.{observed}
use Rattle.bc_machine.specs.Controller.{outcome_in}
use Rattle.bc_machine.proofs.sending.exchange.Goals as goal

pub returns-clause-answer : goal.returns-clause-answer
returns-clause-answer c = c.observe_with.ensures ∙ ap observed c.exchange_into-verdict.ensures.talk

pub returns-clause-outcome : goal.returns-clause-outcome
returns-clause-outcome c = c.exchange_into-verdict.ensures.outcome ∙ ap outcome_in c.exchange_into-verdict.ensures.talk
