use Rattle.bench_export.proofs.Waiting.{all_written}
use Rattle.bench_export.proofs.merging.Merge.write_rest.Goals as goal

pub returns : goal.returns
returns g c first got so_far m l =
    all_written first c.args.self.lag c.args.self.last c.args.self.lines.shown.items got _ _ so_far c.args.self.waiting.items _ m c.in_ok-put_in_order.ensures
    (rw c.deref.ensures.value at c.in_ok-write_changes.ensures.written) l
