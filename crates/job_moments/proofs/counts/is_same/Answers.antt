use Rattle.std.proofs.Common.{sym, ◌∙◌}
use Rattle.job_moments.proofs.Selectors.{same_selector}
use Rattle.job_moments.proofs.counts.is_same.Goals as goal

pub returns : goal.returns
returns c = λ yes. same_selector c.args.one c.args.other (sym c.eq.ensures ∙ yes)
