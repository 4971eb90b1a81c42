use Rattle.std.proofs.Common.{◌≤◌, ◌∙◌, ◌+◌, ◌-◌, ◌++◌, length, ap, sym, subst, arith}
use Rattle.std.specs.List.{flat_map}
use Rattle.std.proofs.lemmas.Result.{err_from_is_err_and}
use Rattle.std.proofs.lemmas.List.{length_push}
use Rattle.frame_code.specs.Ranges.{AreInRange}
use Rattle.frame_code.specs.Bytes.{operation_bytes, version_for}
use Rattle.frame_code.specs.Reading.{many, operation_at}
use Rattle.frame_code.proofs.Many.{onto, onto_more, onto_fails, onto_end, faults, range_more, spelled_more}
use Rattle.frame_code.proofs.Versions.{known_more}
use Rattle.frame_code.proofs.reading.operations.Goals as goal

pub returns-in_err-op-clause-operations : goal.returns-in_err-op-clause-operations
returns-in_err-op-clause-operations c =
    let p = err_from_is_err_and c.from_residual.result c.from_residual.ensures.1 in
    rw (p.1, p.2) (faults c.in_err-op.field-0.0 _ (c.loop.invariant.read ∙ onto_fails (operation_at c.args.version) c.loop.found.items c.args.count c.loop.counter c.loop.rest.now c.in_err-op.field-0.0 (omega arith) c.in_err-op.ensures.operation))

pub loop-preserved : goal.loop-preserved
loop-preserved c =
    let next = c.in_ok-op.next.now in
    let all = c.in_ok-push.ensures.items in
    record {
      read = c.loop.invariant.read ∙ onto_more (operation_at c.args.version) c.loop.found.items c.args.count c.loop.counter c.loop.rest.now next _ (omega arith) c.in_ok-op.ensures.operation ∙ ap (λ xs. onto xs (many (operation_at c.args.version) (c.args.count - (c.loop.counter + 1)) next)) (sym all);
      so_far = ap length all ∙ length_push c.loop.found.items _ ∙ ap (λ n. n + 1) c.loop.invariant.so_far;
      spelled = c.loop.invariant.spelled ∙ ap (λ bs. flat_map operation_bytes c.loop.found.items ++ bs) c.in_ok-op.ensures.spelled ∙ spelled_more operation_bytes c.loop.found.items _ next ∙ ap (λ xs. flat_map operation_bytes xs ++ next) (sym all);
      range = subst AreInRange (sym all) (range_more c.loop.found.items _ c.loop.invariant.range c.in_ok-op.ensures.range);
      known = λ some. subst (λ os. version_for os ≤ c.args.version) (sym all) (known_more c.args.version c.loop.found.items _ (c.loop.invariant.known some) (c.in_ok-op.ensures.known some));
    }

pub returns-clause-operations : goal.returns-clause-operations
returns-clause-operations c = c.loop.invariant.read ∙ onto_end (operation_at c.args.version) c.loop.found.items c.args.count c.loop.counter c.loop.rest.now (omega arith)
