use Rattle.std.proofs.Common.{rules, arith, ◌≡◌, ◌∙◌, [], length, vec_len, refl, sym, ap}
use Rattle.std.specs.Vec.Iter.{into_iter_items}
use Rattle.bench_step.proofs.OwnFaults.{none_left, empty_list}
use Rattle.bench_step.proofs.shown.jobs_under.Goals as goal

pub loop-job-init : goal.loop-job-init
loop-job-init c =
    let gives = c.into_iter-job-iterator.ensures.into_iter_gives in
    let long : length c.args.jobs.items ≡ vec_len c.args.jobs = search rules in
    let count = ap length gives.0 in
    (rw (c.in_ok-under.ensures.items, gives.0, c.channels-parts.ensures.value) refl, omega (arith, gives.1, long, count))

pub returns : goal.returns
returns c =
    let none = c.in-None.ensures.steps in
    let empty : into_iter_items c.loop-job.job-iterator ≡ [] = empty_list _ (sym c.loop-job.invariant.1 ∙ none.0) in
    none_left c.loop-job.under.items (into_iter_items c.loop-job.job-iterator) _ c.loop-job.parts.now empty c.loop-job.invariant.0
