use Rattle.std.proofs.Common.{rules, Ok, refl, ◌∙◌}
use Rattle.ch11_reader.specs.Skipping.{packets_read}
use Rattle.bench_complete.proofs.Refused.{refuses}
use Rattle.bench_complete.proofs.completion.Completion.plan_skipping.Goals as goal

pub returns-in-Err-clause-refused : goal.returns-in-Err-clause-refused
returns-in-Err-clause-refused g c file is known =
    refuses file (packets_read file) (Ok (packets_read file)) c.args.additions.now (search rules) refl c.in-Err.fault
    (c.in-Err.ensures file (packets_read file) (c.over.ensures ∙ known) (c.in_ok-listed.ensures.listed file is))
