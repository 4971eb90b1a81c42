use Rattle.std.proofs.Common.{subst, rules, tests, ◌≤◌}
use Rattle.bc_machine.specs.declared.action_rows.Row.{Row}
use Rattle.bc_machine.proofs.Around.{all_others}
use Rattle.bc_machine.proofs.lookup.are_others.Goals as goal

pub returns : goal.returns
returns c = λ rising is.
    let more : c.args.least ≤ c.from.result = search (rules, tests) in
    all_others (λ (r : Row). r.number) c.args.rows.now c.args.least c.args.place _ rising (subst (λ n. c.args.least ≤ n) c.from.ensures more)
