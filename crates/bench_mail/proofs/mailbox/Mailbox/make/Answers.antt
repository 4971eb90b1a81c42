use Rattle.std.proofs.Common.{ap, ◌∙◌}
use Rattle.std.proofs.lemmas.List.{get_or-replicate}
use Rattle.mil_trunk.specs.Tags.{bound_of}
use Rattle.bench_mail.proofs.mailbox.Mailbox.make.Goals as goal

pub returns-in-Ok-make-clause-limits : goal.returns-in-Ok-make-clause-limits
returns-in-Ok-make-clause-limits c = λ host low. ap (λ l. bound_of l host) c.in-Ok-make.ensures.bounds ∙ get_or-replicate 64 host 36028797018963968 0 low
