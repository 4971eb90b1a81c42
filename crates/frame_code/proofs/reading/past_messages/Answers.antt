use Rattle.std.proofs.Common.{◌∙◌, arith}
use Rattle.std.proofs.lemmas.Result.{err_from_is_err_and}
use Rattle.frame_code.specs.Reading.{message_at}
use Rattle.frame_code.proofs.Many.{behind_more, behind_fails, behind_end}
use Rattle.frame_code.proofs.reading.past_messages.Goals as goal

pub returns-in_err-next : goal.returns-in_err-next
returns-in_err-next c =
    let p = err_from_is_err_and c.from_residual.result c.from_residual.ensures.1 in
    rw (p.1, p.2) (c.loop.invariant ∙ behind_fails message_at c.args.count c.loop.counter c.loop.rest.now c.in_err-next.field-0.0 (omega arith) c.in_err-next.ensures.message)

pub loop-preserved : goal.loop-preserved
loop-preserved c =
    c.loop.invariant ∙ behind_more message_at c.args.count c.loop.counter c.loop.rest.now c.in_ok-next.next.now _ (omega arith) c.in_ok-next.ensures.message

pub returns : goal.returns
returns c = c.loop.invariant ∙ behind_end message_at c.args.count c.loop.counter c.loop.rest.now (omega arith)
