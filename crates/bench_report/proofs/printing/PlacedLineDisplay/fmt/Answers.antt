use Rattle.bench_report.proofs.PrintLemmas.{placed_written}
use Rattle.bench_report.proofs.printing.PlacedLineDisplay.fmt.Goals as goal

pub returns-clause-writes : goal.returns-clause-writes
returns-clause-writes g c = rw (placed_written c.args.self.now.0.now) c.write.ensures.writes
