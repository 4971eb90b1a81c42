use Rattle.std.proofs.Common.{◌≡◌, ◌++◌, take}
use Rattle.job_file.proofs.resolving.joined.Given as goal

abbrev pub invariant-loop-place : goal.invariant-loop-place
invariant-loop-place l = l.first ≡ l.initial.first ++ take l.place l.others
