use Rattle.bench_step.proofs.Telling.{have_text}
use Rattle.bench_step.proofs.laws.messages_have_text.Goals as goal

pub returns : goal.returns
returns c = have_text
