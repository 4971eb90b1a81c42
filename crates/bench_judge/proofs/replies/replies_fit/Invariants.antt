use Rattle.std.proofs.Common.{◌≡◌, length}
use Rattle.bench_judge.specs.Clean as spec
use Rattle.bench_judge.proofs.replies.replies_fit.Given as goal

-- the replies so far fit
abbrev pub invariant-replies : goal.invariant-replies
invariant-replies l = spec.replies_fit l.awaited l.found l.times ≡ spec.replies_fit l.due l.statuses l.gaps

abbrev pub decreases-replies : goal.decreases-replies
decreases-replies l = length l.awaited
