use Rattle.std.proofs.Common.{append_assoc}
use Rattle.bench_export.proofs.flags.push_error_flags.Goals as goal

pub returns : goal.returns
returns c =
    rw (c.in_ok-push_error-6.ensures, c.in_ok-push_error-5.ensures, c.in_ok-push_error-4.ensures, c.in_ok-push_error-3.ensures, c.in_ok-push_error-2.ensures, c.in_ok-push_error.ensures)
    (simp append_assoc)
