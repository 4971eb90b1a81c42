use Rattle.bench_report.proofs.PrintLemmas.{part_written}
use Rattle.bench_report.proofs.printing.ChannelReportDisplay.fmt.Goals as goal

pub returns-clause-writes : goal.returns-clause-writes
returns-clause-writes g c =
    rw (part_written c.args.self.now)
    (rw (c.channel-channel.ensures.value, c.made-made.ensures.value, c.refused.ensures.value, c.placed.ensures.value) at c.write.ensures.writes)
