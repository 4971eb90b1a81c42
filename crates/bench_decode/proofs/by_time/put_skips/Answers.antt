use Rattle.bench_decode.proofs.Sorted.{skipped_all, skipped_more, skipped_none}
use Rattle.bench_decode.proofs.by_time.put_skips.Goals as goal

pub skips-init : goal.skips-init
skips-init g c = skipped_none _ _ _

pub skips-preserved : goal.skips-preserved
skips-preserved g c = skipped_more _ _ _ _ _ _ _ _ _ _ c.skips.invariant c.in-Some.ensures.cases.0 c.in_ok-put_skip.ensures.put

pub returns-clause-put : goal.returns-clause-put
returns-clause-put g c = skipped_all _ _ _ _ _ _ c.skips.invariant c.in_default.ensures.cases
