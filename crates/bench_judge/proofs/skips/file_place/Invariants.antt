use Rattle.std.proofs.Common.{◌≡◌, length}
use Rattle.bench_judge.specs.Skips as spec
use Rattle.bench_judge.proofs.skips.file_place.Given as goal

-- the byte stands behind the skips so far
abbrev pub invariant-skips : goal.invariant-skips
invariant-skips l = spec.file_place l.rest l.place ≡ spec.file_place l.skips l.offset

abbrev pub decreases-skips : goal.decreases-skips
decreases-skips l = length l.rest
