use Rattle.std.proofs.Common.{sym, ◌∙◌}
use Rattle.job_moments.proofs.Chunking.{first_there}
use Rattle.job_moments.proofs.chunks.starts_empty.Goals as goal

pub returns-in-Some : goal.returns-in-Some
returns-in-Some g c = λ empty.
    first_there c.args.chunks.now c.in-Some.chunk.now c.in-Some.ensures.value (sym c.is_empty.ensures ∙ empty)
