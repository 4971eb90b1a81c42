use Rattle.std.proofs.Common.{sym, ◌∙◌}
use Rattle.bc_machine.proofs.Asked.{skip_one, from_is}
use Rattle.bc_machine.proofs.asking.insert_from.Goals as goal

pub returns-in-Some-clause-there : goal.returns-in-Some-clause-there
returns-in-Some-clause-there c =
    from_is c.args.beside.now.lists c.args.rows.now c.args.passed c.loop-place.place c.index-rows-place.result c.in-Some.insertion c.loop-place-test.true c.index-rows-place.is (sym c.in-Some.ensures)
    c.loop-place.auto.place c.loop-place.invariant

pub loop-place-preserved : goal.loop-place-preserved
loop-place-preserved c =
    skip_one c.args.beside.now.lists c.args.rows.now c.loop-place.place c.index-rows-place.result c.loop-place-test.true c.index-rows-place.is (sym c.in_default.ensures) ∙ c.loop-place.invariant
