use Rattle.std.proofs.Common.{◌∙◌, sym, subst}
use Rattle.bench_settings.specs.Placing.{IsOrdered}
use Rattle.bench_run.proofs.threads.ordered_for.Goals as goal

pub returns-clause-ordered : goal.returns-clause-ordered
returns-clause-ordered c = c.room.ensures.actions ∙ c.of-ordered.ensures.actions ∙ c.in_ok-ordered_actions.ensures.ordered

pub returns-clause-fit : goal.returns-clause-fit
returns-clause-fit c = subst IsOrdered (sym (c.room.ensures.actions ∙ c.of-ordered.ensures.actions)) c.in_ok-ordered_actions.ensures.fit
