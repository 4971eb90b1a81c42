use Rattle.bench_report.proofs.PrintedSpells.{printed-spells}
use Rattle.bench_report.proofs.printing.print_report.Goals as goal

pub returns-clause-spelled : goal.returns-clause-spelled
returns-clause-spelled c = rw c.in_ok-text.ensures.ok (printed-spells c.args.report.now c.packets-packets.ensures.report)
