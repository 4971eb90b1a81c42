-- Which codes may be run, and the first cause for which others may not.
use Rattle.std.proofs.Common.{◌≡◌, ◌<◌, ◌≤◌, ◌^◌, length, ⊎_elim, arith}
use Rattle.std.specs.Prelude.{Ok, Err}
use Rattle.std.proofs.lemmas.Bool.{cases_lt}
use Rattle.std.proofs.lemmas.Bool.Decides.{nat_tests}
use Rattle.frame_code.specs.Table.{Code}
use Rattle.frame_code.specs.Ranges.{IsImage}
use Rattle.frame_code.specs.Loadable.{IsLoadable}
use Rattle.frame_load.specs.declared.error.LoadError.{LoadError}
use Rattle.frame_load.specs.declared.error.LoadError.TheVariants.{End, Routines, Nesting, Jumps, Messages, Budget, Periods, Memory}
use Rattle.frame_load.specs.Budget.{budget, worst_messages, periods}
use Rattle.frame_load.specs.Judging.{IsWithin, HasShortPeriods, Refuses}
use Rattle.bench_assemble.specs.Assembled.{judged_code, too_long, too_many_messages, over_budget, too_slow, IsRefusal, told_as}

pub judged_long : (code : Code) → 4096 < length code.operations → judged_code code ≡ Err too_long
unfolding judged_code
judged_long code h = grind (arith, nat_tests)

pub judged_many : (code : Code) → length code.operations ≤ 4096 → 1024 < length code.messages → judged_code code ≡ Err too_many_messages
unfolding judged_code
judged_many code h g = grind (arith, nat_tests)

pub judged_within : (code : Code) → IsImage code → IsWithin code → HasShortPeriods code → judged_code code ≡ Ok code
unfolding judged_code
judged_within code i w s =
    let operations : length code.operations ≤ 4096 = i.operations in
    let messages : length code.messages ≤ 1024 = i.messages in
    let steps : budget code.operations ≤ 100000000 = w.0 in
    let sent : worst_messages code.operations ≤ 1000000 = w.1 in
    let short : periods code.operations ≤ 2 ^ 46 = s in
    grind (arith, nat_tests)

judged_slow : (code : Code) → IsImage code → IsWithin code → 2 ^ 46 < periods code.operations → judged_code code ≡ Err too_slow
unfolding judged_code
judged_slow code i w h =
    let operations : length code.operations ≤ 4096 = i.operations in
    let messages : length code.messages ≤ 1024 = i.messages in
    let steps : budget code.operations ≤ 100000000 = w.0 in
    let sent : worst_messages code.operations ≤ 1000000 = w.1 in
    grind (arith, nat_tests)

judged_steps : (code : Code) → IsImage code → 100000000 < budget code.operations → judged_code code ≡ Err over_budget
unfolding judged_code
judged_steps code i h =
    let operations : length code.operations ≤ 4096 = i.operations in
    let messages : length code.messages ≤ 1024 = i.messages in
    grind (arith, nat_tests)

judged_sent : (code : Code) → IsImage code → budget code.operations ≤ 100000000 → 1000000 < worst_messages code.operations → judged_code code ≡ Err over_budget
unfolding judged_code
judged_sent code i g h =
    let operations : length code.operations ≤ 4096 = i.operations in
    let messages : length code.messages ≤ 1024 = i.messages in
    grind (arith, nat_tests)

judged_over : (code : Code) → IsImage code → ¬ IsWithin code → judged_code code ≡ Err over_budget
judged_over code i beyond =
    ⊎_elim (λ more. judged_steps code i more)
    (λ few. ⊎_elim (λ more. judged_sent code i few more) (λ less. absurd (beyond (few, less))) (cases_lt 1000000 (worst_messages code.operations)))
    (cases_lt 100000000 (budget code.operations))

-- a loadable code is refused for its budget alone, or for its periods
pub judged_refused : (code : Code) (e : LoadError) → IsLoadable code → Refuses code e → IsRefusal (judged_code code) (told_as e)
judged_refused code End ok h = absurd (h ok.ends)
judged_refused code Routines ok h = absurd (h.1 ok.routines_ok)
judged_refused code Nesting ok h = absurd (h.2 ok.nested)
judged_refused code Jumps ok h = absurd (h.3 ok.jumps)
judged_refused code Messages ok h = absurd (h.4 ok.messages)
judged_refused code Budget ok h = judged_over code ok.image h.1
judged_refused code Periods ok h =
    ⊎_elim (λ more. judged_slow code ok.image h.1 more) (λ less. absurd (h.2 less)) (cases_lt (2 ^ 46) (periods code.operations))
judged_refused code Memory ok h = absurd h
