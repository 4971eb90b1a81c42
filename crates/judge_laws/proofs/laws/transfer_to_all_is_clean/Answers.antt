use Rattle.judge_laws.proofs.BetweenAllForms.{clean_from_one_to_all}
use Rattle.judge_laws.proofs.laws.transfer_to_all_is_clean.Goals as goal

pub returns : goal.returns
returns c = clean_from_one_to_all
