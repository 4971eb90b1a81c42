use Rattle.std.proofs.Common.{arith}
use Rattle.bench_signals.proofs.Counted.{put_figures}
use Rattle.bench_signals.proofs.counting.Counting.note.Goals as goal

pub returns : goal.returns
returns c =
    put_figures c.args.index c.args.channel c.args.kind.now _ c.in_ok-figures.figures c.found-before.result c.args.self.now _ (rw c.key_of-key.ensures at c.in_ok-insert.ensures.updates.0) c.in_ok-insert-2.ensures.updates.0 (rw c.key_of-key.ensures at c.found-before.ensures) c.in_ok-figures.ensures (omega arith)
