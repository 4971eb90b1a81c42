use Rattle.std.proofs.Common.{sym, subst, arith}
use Rattle.std.proofs.lemmas.Grind.{common_steps}
use Rattle.job_moments.specs.declared.counts.Counter.{Counter}
use Rattle.job_moments.specs.Counting.{Counted, HasCounter}
use Rattle.job_moments.proofs.Counters.{counter_put, counter_kept}
use Rattle.job_moments.proofs.counts.Counts.counter_of.Goals as goal

pub returns-clause-counter : goal.returns-clause-counter
returns-clause-counter c =
    let counter : Counter = record { selector = c.in-Some.selector; count = 0 } in
    counter_put c.self.inside.counters.items c.push.new.self.items counter c.len-place.result c.args.selector
    (grind (arith, common_steps, c.push.ensures.items, c.is_err.ensures.value, c.is_err.ensures.negation, c.if-is_err.false))
    (grind (arith, c.len-place.ensures)) c.in-Some.is

pub returns-clause-others : goal.returns-clause-others
returns-clause-others c = λ place other had.
    let counter : Counter = record { selector = c.in-Some.selector; count = 0 } in
    counter_kept c.self.inside.counters.items c.push.new.self.items counter place other
    (grind (arith, common_steps, c.push.ensures.items, c.is_err.ensures.value, c.is_err.ensures.negation, c.if-is_err.false))
    (subst (λ (v : Counted). HasCounter v.selectors place other) (sym c.self.view_is) had)
