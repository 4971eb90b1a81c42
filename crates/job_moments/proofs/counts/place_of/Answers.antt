use Rattle.job_moments.proofs.Counters.{selector_at}
use Rattle.job_moments.proofs.counts.place_of.Goals as goal

pub returns-then-is_same : goal.returns-then-is_same
returns-then-is_same c = selector_at c.args.counters.now c.loop-place.place _ c.args.selector c.loop-place-test.true
    (c.is_same.ensures c.if-is_same.true)
