use Rattle.std.proofs.Common.{◌∙◌, ◌+◌, ◌-◌, ◌++◌, length, ap, sym, arith}
use Rattle.std.specs.List.{flat_map}
use Rattle.std.proofs.lemmas.Result.{err_from_is_err_and}
use Rattle.std.proofs.lemmas.List.{length_push}
use Rattle.frame_code.specs.Bytes.{two_bytes}
use Rattle.frame_code.specs.Reading.{many, two_at}
use Rattle.frame_code.proofs.Many.{onto, onto_more, onto_fails, onto_end, spelled_more}
use Rattle.frame_code.proofs.reading.words.Goals as goal

pub returns-in_err-word-clause-words : goal.returns-in_err-word-clause-words
returns-in_err-word-clause-words c =
    let p = err_from_is_err_and c.from_residual.result c.from_residual.ensures.1 in
    rw (p.1, p.2) (c.loop.invariant.read ∙ onto_fails two_at c.loop.found.items c.args.count c.loop.counter c.loop.rest.now c.in_err-word.field-0.0 (omega arith) c.in_err-word.ensures.two)

pub loop-preserved : goal.loop-preserved
loop-preserved c =
    let next = c.in_ok-word.next.now in
    let all = c.push.ensures.items in
    record {
      read = c.loop.invariant.read ∙ onto_more two_at c.loop.found.items c.args.count c.loop.counter c.loop.rest.now next _ (omega arith) c.in_ok-word.ensures.two ∙ ap (λ xs. onto xs (many two_at (c.args.count - (c.loop.counter + 1)) next)) (sym all);
      so_far = ap length all ∙ length_push c.loop.found.items _ ∙ ap (λ n. n + 1) c.loop.invariant.so_far;
      spelled = c.loop.invariant.spelled ∙ ap (λ bs. flat_map two_bytes c.loop.found.items ++ bs) c.in_ok-word.ensures.spelled ∙ spelled_more two_bytes c.loop.found.items _ next ∙ ap (λ xs. flat_map two_bytes xs ++ next) (sym all);
    }

pub returns-clause-words : goal.returns-clause-words
returns-clause-words c = c.loop.invariant.read ∙ onto_end two_at c.loop.found.items c.args.count c.loop.counter c.loop.rest.now (omega arith)
