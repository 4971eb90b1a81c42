use Rattle.std.proofs.Common.{sym, ◌∙◌}
use Rattle.bench_report.proofs.ListLemmas.{last_number-is}
use Rattle.bench_report.proofs.channels.last_refused.Goals as goal

pub returns-in-Some : goal.returns-in-Some
returns-in-Some c = c.in-Some.ensures.item.3.1 0 ∙ sym (last_number-is 0 c.args.refused.now c.in-Some.ensures.item.3.0)
