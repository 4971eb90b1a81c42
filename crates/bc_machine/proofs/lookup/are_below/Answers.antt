use Rattle.std.proofs.Common.{subst, rules, tests, ◌<◌}
use Rattle.bc_machine.specs.declared.action_rows.Row.{Row}
use Rattle.bc_machine.proofs.Around.{all_below}
use Rattle.bc_machine.proofs.lookup.are_below.Goals as goal

pub returns : goal.returns
returns c = λ rising is.
    let less : c.from.result < c.args.least = search (rules, tests) in
    all_below (λ (r : Row). r.number) c.args.rows.now c.args.least c.args.place _ rising c.requires (subst (λ n. n < c.args.least) c.from.ensures less)
