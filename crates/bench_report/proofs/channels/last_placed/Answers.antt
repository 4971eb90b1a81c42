use Rattle.std.proofs.Common.{◌<◌, ◌-◌, ◌∙◌, ℕ, false, length, get_or, sym, ap, arith}
use Rattle.std.proofs.lemmas.Bool.Decides.{nat_tests}
use Rattle.mil_host.specs.declared.actions.Action.TheVariants as host
use Rattle.bc_machine.specs.declared.placed.HostAction.TheVariants.{Terminal}
use Rattle.bc_machine.specs.declared.placed.Placed.{Placed}
use Rattle.bench_report.proofs.ListLemmas.{last_placed-is}
use Rattle.bench_report.proofs.channels.last_placed.Goals as goal

pub returns-else-is_empty : goal.returns-else-is_empty
returns-else-is_empty c =
    let all = c.args.placed.now in
    let some : 0 < length all = grind (arith, nat_tests) in
    let none : Placed = record { number = 0; action = Terminal 0 (host.Busy false) } in
    c.number.ensures none
    ∙ ap (λ (n : ℕ). (get_or all (n - 1) none).number) c.len.ensures
    ∙ sym (last_placed-is 0 all none some)
