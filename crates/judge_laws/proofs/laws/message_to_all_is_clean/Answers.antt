use Rattle.judge_laws.proofs.AllClean.{clean_to_all}
use Rattle.judge_laws.proofs.laws.message_to_all_is_clean.Goals as goal

pub returns : goal.returns
returns c = clean_to_all
