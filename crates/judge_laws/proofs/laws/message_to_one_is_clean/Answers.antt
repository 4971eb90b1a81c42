use Rattle.judge_laws.proofs.OneClean.{clean_to_one}
use Rattle.judge_laws.proofs.laws.message_to_one_is_clean.Goals as goal

pub returns : goal.returns
returns c = clean_to_one
