use Rattle.std.proofs.Common.{append_assoc}
use Rattle.bench_export.proofs.flags.push_status_flags.Goals as goal

pub returns : goal.returns
returns c =
    rw (c.in_ok-push_status_flag-8.ensures, c.in_ok-push_status_flag-7.ensures, c.in_ok-push_status_flag-6.ensures, c.in_ok-push_status_flag-5.ensures, c.in_ok-push_status_flag-4.ensures, c.in_ok-push_status_flag-3.ensures, c.in_ok-push_status_flag-2.ensures, c.in_ok-push_status_flag.ensures)
    (simp append_assoc)
