use Rattle.std.proofs.Common.{◌≡◌, ◌++◌, length}
use Rattle.std.specs.Vec.Iter.{into_iter_items, into_iter_len}
use Rattle.bench_step.specs.Shown.{jobs_under}
use Rattle.bench_step.proofs.shown.jobs_under.Given as goal

-- those so far, and the others under the faults of their parts
abbrev pub invariant-loop-job : goal.invariant-loop-job
invariant-loop-job l = (l.under.items ++ jobs_under (into_iter_items l.job-iterator) l.parts ≡ jobs_under l.fn.jobs.items l.report.channels)
    × (into_iter_len l.job-iterator ≡ length (into_iter_items l.job-iterator))
