use Rattle.std.proofs.Common.{◌-◌, ◌+◌, length, take, drop, subst}
use Rattle.std.proofs.lemmas.List.Elements.{All-take, All-drop}
use Rattle.std.proofs.lemmas.List.Sorted.{IsNonDecreasingBy-take, IsNonDecreasingBy-drop}
use Rattle.bc_machine.specs.declared.action_rows.Row.{Row}
use Rattle.bc_machine.specs.Rows.{IsRow}
use Rattle.bc_machine.specs.Schedules.{AreRising, BeginsAt}
use Rattle.bc_machine.proofs.Around.{around, alone}
use Rattle.bc_machine.proofs.lookup.part.Goals as goal

pub returns-clause-same : goal.returns-clause-same
returns-clause-same c =
    let xs = c.args.rows.now in
    let f = c.begin_of-from.result in
    let rest = take (length xs - f) (drop f xs) in
    let rising : AreRising rest = IsNonDecreasingBy-take (λ (r : Row). r.number) (length xs - f) (drop f xs) (IsNonDecreasingBy-drop (λ (r : Row). r.number) f xs c.requires) in
    let before = subst (λ least. BeginsAt least xs f) c.from-least.ensures (c.begin_of-from.ensures c.requires) in
    let behind = subst (λ least. BeginsAt (least + 1) rest c.begin_of-to.result) c.from-least.ensures (c.begin_of-to.ensures rising) in
    around (λ (r : Row). r.number) xs c.args.number f c.begin_of-to.result before.below behind.others

pub returns-clause-rows : goal.returns-clause-rows
returns-clause-rows c = λ beside all.
    let xs = c.args.rows.now in
    let f = c.begin_of-from.result in
    All-take (IsRow beside) c.begin_of-to.result (take (length xs - f) (drop f xs)) (All-take (IsRow beside) (length xs - f) (drop f xs) (All-drop (IsRow beside) f xs all))

pub returns-clause-alone : goal.returns-clause-alone
returns-clause-alone c =
    let xs = c.args.rows.now in
    let f = c.begin_of-from.result in
    let rest = take (length xs - f) (drop f xs) in
    let rising : AreRising rest = IsNonDecreasingBy-take (λ (r : Row). r.number) (length xs - f) (drop f xs) (IsNonDecreasingBy-drop (λ (r : Row). r.number) f xs c.requires) in
    let before = subst (λ least. BeginsAt least xs f) c.from-least.ensures (c.begin_of-from.ensures c.requires) in
    let behind = subst (λ least. BeginsAt (least + 1) rest c.begin_of-to.result) c.from-least.ensures (c.begin_of-to.ensures rising) in
    alone (λ (r : Row). r.number) xs c.args.number f c.begin_of-to.result before.others behind.below
