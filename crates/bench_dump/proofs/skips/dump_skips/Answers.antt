use Rattle.std.proofs.Common.{ap}
use Rattle.bench_dump.specs.SkippingText.{skip_line, skip_lines}
use Rattle.bench_dump.proofs.SkipLines.{passes}
use Rattle.bench_dump.proofs.skips.dump_skips.Goals as goal

pub skips-preserved : goal.skips-preserved
skips-preserved g c =
    passes _ _ _ _ _ _ _ _ _ (skip_line c.in-Some.skip.now) (skip_lines c.in-Some.others.now) c.skips.invariant (ap skip_lines c.in-Some.ensures.cases.0) c.in_ok-put_skip_line.ensures c.in_ok-hand_on.ensures.handed
