use Rattle.std.proofs.Common.{◌≡◌, ◌-◌, ◌≤◌, length, get_or, ap, arith, rules}
use Rattle.std.proofs.lemmas.List.Sorted.{IsNonDecreasingBy-push}
use Rattle.bc_machine.specs.declared.action_rows.Row.{Row}
use Rattle.bc_machine.proofs.schedule.follows.Goals as goal

pub returns-in-Some : goal.returns-in-Some
returns-in-Some c = λ row is above. IsNonDecreasingBy-push (λ (r : Row). r.number) c.args.rows.now row (c.requires (search rules))
    (λ d some.
    let last : get_or c.args.rows.now (length c.args.rows.now - 1) d ≡ c.in-Some.last.now = search rules in
    let number = ap (λ (r : Row). r.number) last in
    let low : (c.in-Some.last.now).number ≤ c.args.number = search rules in
    omega (arith, number, low, is))
