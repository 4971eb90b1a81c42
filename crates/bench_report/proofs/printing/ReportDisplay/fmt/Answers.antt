use Rattle.bench_report.proofs.PrintLemmas.{report_written}
use Rattle.bench_report.proofs.printing.ReportDisplay.fmt.Goals as goal

pub returns-clause-writes : goal.returns-clause-writes
returns-clause-writes g c =
    rw (report_written c.args.self.now)
    (rw (c.channels.ensures.value, c.packets-packets.ensures.value) at c.write.ensures.writes)
