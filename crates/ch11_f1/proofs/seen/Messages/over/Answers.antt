use Rattle.std.proofs.Common.{◌%◌, arith}
use Rattle.ch11_f1.specs.BodyReading.{messages_at, ok_or_none}
use Rattle.ch11_f1.proofs.Loop.{read_count}
use Rattle.ch11_f1.proofs.seen.Messages.over.Goals as goal

pub returns-clause-few : goal.returns-clause-few
returns-clause-few c =
    let count = c.read_u32-left.result % 16777216 in
    let rest = c.split_at.result.1.now in
    let checked = c.in_ok-check_messages.ensures in
    let n = read_count count rest (ok_or_none (messages_at count rest)) checked.read in
    omega (arith, n, checked.few, c.split_at.ensures.back_len)
