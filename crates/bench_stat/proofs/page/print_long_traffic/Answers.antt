use Rattle.std.proofs.Common.{ℕ, Option, OnOk, subst}
use Rattle.std.specs.Io.KnownBytes.{Appends}
use Rattle.bench_stat.specs.ChannelText.{load_line}
use Rattle.bench_stat.specs.PageText.{long_span_line, long_traffic_lines}
use Rattle.bench_stat.proofs.Appending.{then_appends}
use Rattle.bench_stat.proofs.page.print_long_traffic.Goals as goal

pub returns : goal.returns
unfolding long_traffic_lines
returns g c =
    then_appends c.print_load_line.result _ _ _ _ _
    (subst (λ (s : Option ℕ). Appends (g.W.Write.contents c.args.out.now) (g.W.Write.contents c.print_long_span.new.out) (long_span_line s)) c.known_span.ensures c.in_ok-print_long_span.ensures)
    (then_appends c.print_load_line.result _ _ _ _ _ c.in_ok-print_falls.ensures
    (then_appends c.print_load_line.result _ _ _ _ _ c.in_ok-print_times.ensures
    (then_appends c.print_load_line.result _ _ _ _ _ c.in_ok-print_long_counts.ensures
    (subst (λ (l : Option ℕ). OnOk c.print_load_line.result (Appends (g.W.Write.contents c.print_long_counts.new.out) (g.W.Write.contents c.print_load_line.new.out) (load_line l))) c.known_load.ensures c.print_load_line.ensures))))
