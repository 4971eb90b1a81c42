use Rattle.std.proofs.Common.{◌≡◌, length, subst, arith}
use Rattle.job_moments.specs.declared.counts.Counter.{Counter}
use Rattle.job_moments.proofs.Counters.{HasMet, same_selectors, met_at}
use Rattle.job_moments.proofs.Lists.{set_done, set_rest}
use Rattle.job_moments.proofs.counts.count.Goals as goal

pub loop-counter-preserved : goal.loop-counter-preserved
loop-counter-preserved c =
    let i = c.loop-counter.counter-index in
    let old = c.args.counters.now in
    let now = c.loop-counter.counters in
    let long : length now ≡ length old = omega (arith, c.loop-counter.auto.counters) in
    record {
      done = set_done (HasMet c.args.met.now) old now i c.meet.new.self long (omega (arith, c.loop-counter-test.true, long))
          c.loop-counter.invariant.done
          (λ d. subst (λ (e : Counter). HasMet c.args.met.now e c.meet.new.self) (c.loop-counter.invariant.rest i d (omega arith))
          (met_at c.args.met.now now i _ c.meet.new.self (omega (arith, c.loop-counter-test.true, long)) c.meet.ensures.selector c.meet.ensures.counted d));
      rest = set_rest old now i c.meet.new.self c.loop-counter.invariant.rest;
    }

pub returns-clause-selectors : goal.returns-clause-selectors
returns-clause-selectors c = same_selectors _ _ (omega (arith, c.loop-counter.auto.counters))
    (λ k d lt. (c.loop-counter.invariant.done k d (omega (arith, lt, c.loop-counter-test.false, c.loop-counter.auto.counters))).selector)
