use Rattle.bench_export.proofs.Waiting.{some_written}
use Rattle.bench_export.proofs.merging.Merge.write_many.Goals as goal

pub returns-clause-merging : goal.returns-clause-merging
returns-clause-merging g c first got so_far m =
    let w = c.in_ok-self.ensures in
    some_written first c.args.self.now.lag c.args.self.now.last _ c.args.self.now.lines.shown.items _ got _ _ so_far c.args.self.now.waiting.items w.0 _ m w.1 w.2 w.3 w.4
