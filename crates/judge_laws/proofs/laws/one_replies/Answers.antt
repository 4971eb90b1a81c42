use Rattle.judge_laws.proofs.OneForms.{one_replies}
use Rattle.judge_laws.proofs.laws.one_replies.Goals as goal

pub returns : goal.returns
returns c = one_replies
