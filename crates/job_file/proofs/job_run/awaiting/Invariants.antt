use Rattle.std.proofs.Common.{◌≡◌, [], take}
use Rattle.job_file.specs.Resolving.{whens_left}
use Rattle.job_file.proofs.job_run.awaiting.Given as goal

-- those that were put in are the first
abbrev pub invariant-loop-place : goal.invariant-loop-place
invariant-loop-place l = record {
  whens : whens_left l.waiting ≡ take l.place l.whens;
  made : l.waiting.made ≡ [];
}
