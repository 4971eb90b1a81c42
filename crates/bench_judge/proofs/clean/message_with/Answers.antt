use Rattle.bench_judge.proofs.Forms.{answers}
use Rattle.bench_judge.proofs.clean.message_with.Goals as goal

pub returns : goal.returns
returns c = answers _ _ c.of_parts.ensures.exact
