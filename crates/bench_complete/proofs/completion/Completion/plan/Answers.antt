use Rattle.std.proofs.Common.{rules, ◌∙◌}
use Rattle.ch11_reader.specs.Indexed.{found_in}
use Rattle.ch11_reader.specs.Recording.{packets_in}
use Rattle.bench_complete.proofs.Refused.{plans}
use Rattle.bench_complete.proofs.completion.Completion.plan.Goals as goal

pub returns : goal.returns
returns g c file is known =
    let found = c.in_ok-listed.ensures.listed file is in
    plans file (found_in file) (packets_in file) c.args.additions.now (search rules) found.0 c.of.result (c.of.ensures file (found_in file) (c.over.ensures ∙ known) found.1)
