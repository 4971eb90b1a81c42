use Rattle.std.specs.Prelude.{codes}
use Rattle.bench_export.specs.Waves.{idle_line, idle_signal}
use Rattle.bench_export.proofs.Parts.{four_put, two_put}
use Rattle.bench_export.proofs.heads.put_idle_line.Goals as goal

pub returns : goal.returns
unfolding idle_line
returns c =
    let on_b = c.args.wire.on_b in
    let channel = c.args.wire.channel in
    two_put c.args.text.now.items _ _ (idle_signal (codes "bz ") (codes "w") on_b channel) _ c.in_ok-put_idle_signal.ensures
    (four_put _ _ _ _ _ (idle_signal (codes "bz ") (codes "k") on_b channel) (idle_signal (codes "bz ") (codes "t") on_b channel) (idle_signal (codes "bz ") (codes "m") on_b channel)
    (idle_signal (codes "0") (codes "e") on_b channel) c.in_ok-put_idle_signal-2.ensures c.in_ok-put_idle_signal-3.ensures c.in_ok-put_idle_signal-4.ensures c.in_ok-put_idle_signal-5.ensures)
