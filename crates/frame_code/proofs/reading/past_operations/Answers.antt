use Rattle.std.proofs.Common.{◌≡◌, ◌∙◌, ap, sym, arith, max, ◌-◌, ◌+◌}
use Rattle.std.proofs.lemmas.Result.{err_from_is_err_and}
use Rattle.frame_code.specs.Reading.{many, many_versions, operation_at}
use Rattle.frame_code.proofs.Versions.{at_least, at_least_one, versions_more, versions_fail, versions_end}
use Rattle.frame_code.proofs.reading.past_operations.Goals as goal

pub returns-in_err-op : goal.returns-in_err-op
returns-in_err-op c =
    let p = err_from_is_err_and c.from_residual.result c.from_residual.ensures.1 in
    rw (p.1, p.2) (c.loop.invariant.read ∙ versions_fail c.args.version c.loop.needed c.args.count c.loop.counter c.loop.rest.now c.in_err-op.field-0.0 (omega arith) c.in_err-op.ensures.operation)

pub loop-init : goal.loop-init
loop-init c =
    let same : c.args.count - 0 ≡ c.args.count = omega arith in
    record {
      read = at_least_one (many (operation_at c.args.version) c.args.count c.args.bytes.now) ∙ ap (λ k. at_least 1 (many_versions (many (operation_at c.args.version) k c.args.bytes.now))) (sym same);
      some = omega arith;
    }

pub loop-preserved : goal.loop-preserved
loop-preserved c =
    let needed = c.max-needed.ensures ∙ ap (λ v. max v c.loop.needed) c.version_of.ensures.value in
    record {
      read = c.loop.invariant.read ∙ versions_more c.args.version c.loop.needed c.args.count c.loop.counter c.loop.rest.now c.in_ok-op.next.now c.in_ok-op.op (omega arith) c.in_ok-op.ensures.operation
          ∙ ap (λ v. at_least v (many_versions (many (operation_at c.args.version) (c.args.count - (c.loop.counter + 1)) c.in_ok-op.next.now))) (sym needed);
      some = omega (arith, c.max-needed.ensures, c.loop.invariant.some);
    }

pub returns : goal.returns
returns c = c.loop.invariant.read ∙ versions_end c.args.version c.loop.needed c.args.count c.loop.counter c.loop.rest.now c.loop.invariant.some (omega arith)
