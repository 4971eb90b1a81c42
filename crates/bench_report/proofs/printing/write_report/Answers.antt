use Rattle.bench_report.proofs.PrintedSpells.{printed-spells}
use Rattle.bench_report.proofs.printing.write_report.Goals as goal

pub returns-in_err-write-clause-spelled : goal.returns-in_err-write-clause-spelled
returns-in_err-write-clause-spelled g c = printed-spells c.args.report.now c.packets-packets.ensures.report

pub returns-clause-spelled : goal.returns-clause-spelled
returns-clause-spelled g c = printed-spells c.args.report.now c.packets-packets.ensures.report
