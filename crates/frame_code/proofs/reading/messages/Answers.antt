use Rattle.std.proofs.Common.{◌∙◌, ◌+◌, ◌-◌, ◌++◌, length, ap, sym, arith}
use Rattle.std.specs.List.{flat_map}
use Rattle.std.proofs.lemmas.Result.{err_from_is_err_and}
use Rattle.std.proofs.lemmas.List.{length_push}
use Rattle.frame_code.specs.Bytes.{message_bytes}
use Rattle.frame_code.specs.Reading.{many, message_at}
use Rattle.frame_code.proofs.Many.{onto, onto_more, onto_fails, onto_end, faults, spelled_more}
use Rattle.frame_code.proofs.reading.messages.Goals as goal

pub returns-in_err-entry-clause-messages : goal.returns-in_err-entry-clause-messages
returns-in_err-entry-clause-messages c =
    let p = err_from_is_err_and c.from_residual.result c.from_residual.ensures.1 in
    rw (p.1, p.2) (faults c.in_err-entry.field-0.0 _ (c.loop.invariant.read ∙ onto_fails message_at c.loop.found.items c.args.count c.loop.counter c.loop.rest.now c.in_err-entry.field-0.0 (omega arith) c.in_err-entry.ensures.message))

pub loop-preserved : goal.loop-preserved
loop-preserved c =
    let next = c.in_ok-entry.next.now in
    let all = c.in_ok-push.ensures.items in
    record {
      read = c.loop.invariant.read ∙ onto_more message_at c.loop.found.items c.args.count c.loop.counter c.loop.rest.now next _ (omega arith) c.in_ok-entry.ensures.message ∙ ap (λ xs. onto xs (many message_at (c.args.count - (c.loop.counter + 1)) next)) (sym all);
      so_far = ap length all ∙ length_push c.loop.found.items _ ∙ ap (λ n. n + 1) c.loop.invariant.so_far;
      spelled = c.loop.invariant.spelled ∙ ap (λ bs. flat_map message_bytes c.loop.found.items ++ bs) c.in_ok-entry.ensures.spelled ∙ spelled_more message_bytes c.loop.found.items _ next ∙ ap (λ xs. flat_map message_bytes xs ++ next) (sym all);
    }

pub returns-clause-messages : goal.returns-clause-messages
returns-clause-messages c = c.loop.invariant.read ∙ onto_end message_at c.loop.found.items c.args.count c.loop.counter c.loop.rest.now (omega arith)
