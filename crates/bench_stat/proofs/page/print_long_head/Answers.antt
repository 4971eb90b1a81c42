use Rattle.bench_stat.specs.PageText.{long_head}
use Rattle.bench_stat.proofs.Appending.{then_appends}
use Rattle.bench_stat.proofs.page.print_long_head.Goals as goal

pub returns : goal.returns
unfolding long_head
returns g c =
    rw (← c.has_times.ensures)
    (then_appends c.print_replies.result _ _ _ _ _ c.in_ok-print_long_traffic.ensures
    (then_appends c.print_replies.result _ _ _ _ _ c.in_ok-print_gaps.ensures
    (then_appends c.print_replies.result _ _ _ _ _ c.in_ok-print_errors.ensures
    (then_appends c.print_replies.result _ _ _ _ _ c.in_ok-print_retries.ensures
    c.print_replies.ensures))))
