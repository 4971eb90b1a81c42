use Rattle.std.proofs.Common.{arith}
use Rattle.bench_judge.proofs.Cases.{first_more}
use Rattle.bench_judge.proofs.escaping.put_next.Goals as goal

pub returns : goal.returns
returns c = λ others is.
    rw c.saturating_sub.ensures
    (first_more c.args.inside c.args.first c.character_len-len.result c.args.bytes.now others c.args.text.now.items c.put_first.new.text.items (omega arith) is c.character_len-len.ensures c.in_ok-put_first.ensures)
