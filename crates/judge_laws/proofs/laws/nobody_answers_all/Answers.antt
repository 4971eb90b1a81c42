use Rattle.judge_laws.proofs.AllForms.{nobody_answers}
use Rattle.judge_laws.proofs.laws.nobody_answers_all.Goals as goal

pub returns : goal.returns
returns c = nobody_answers
