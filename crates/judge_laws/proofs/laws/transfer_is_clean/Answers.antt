use Rattle.judge_laws.proofs.BetweenForms.{clean_of_two}
use Rattle.judge_laws.proofs.laws.transfer_is_clean.Goals as goal

pub returns : goal.returns
returns c = clean_of_two
