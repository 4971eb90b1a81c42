use Rattle.std.proofs.Common.{◌≡◌, ◌<◌, ℕ}
use Rattle.std.specs.Prelude.{Some, slice_get}
use Rattle.bench_mail.specs.Mail.{IsMadeFor}
use Rattle.bench_run.proofs.running.are_for.Given as goal

abbrev pub invariant-loop-place : goal.invariant-loop-place
invariant-loop-place l = (k : ℕ) (box : _) (job : _) → k < l.place → slice_get l.boxes k ≡ Some box → slice_get l.jobs k ≡ Some job → IsMadeFor box job
