use Rattle.bench_check.proofs.Heads.{is_more}
use Rattle.bench_check.proofs.scripts.is_script.Goals as goal

pub returns-in-Some-next_word : goal.returns-in-Some-next_word
returns-in-Some-next_word c = is_more c.args.line.now _ _ _ _ c.in-Some.ensures c.in-Some-next_word.ensures
