use Rattle.std.proofs.Common.{ap, sym, subst, ◌∙◌}
use Rattle.std.specs.Prelude.{All}
use Rattle.bc_machine.specs.declared.lookup.Lookup.{Lookup}
use Rattle.bc_machine.specs.Rows.{IsRow}
use Rattle.bc_machine.specs.Schedules.{AreSorted, FindsRows, finds_alone}
use Rattle.bc_machine.proofs.lookup.Lookup.rows_of.Goals as goal

pub returns-in-Rising-clause-rows : goal.returns-in-Rising-clause-rows
returns-in-Rising-clause-rows c = c.part.ensures.rows c.args.beside.now.lists c.requires.rows

pub returns-in-Sorted-clause-rows : goal.returns-in-Sorted-clause-rows
returns-in-Sorted-clause-rows c =
    let beside = c.args.beside.now.lists in
    let found : AreSorted beside c.args.rows.now c.in-Sorted.sorted.items = subst (λ (l : Lookup). FindsRows l beside c.args.rows.now) c.in-Sorted.is c.requires.found in
    c.part-in-Sorted.ensures.rows beside (subst (All (IsRow beside)) (sym c.as_slice.ensures.value) found.all)

pub returns-in-Each-clause-alone : goal.returns-in-Each-clause-alone
returns-in-Each-clause-alone c found = absurd (let no = ap finds_alone (sym c.in-Each.is) ∙ found in cc)
