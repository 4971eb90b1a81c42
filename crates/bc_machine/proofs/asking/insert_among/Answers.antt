use Rattle.std.proofs.Common.{◌∙◌, length, ap, sym, arith}
use Rattle.bc_machine.proofs.Asked.{among_is, none_more, place_more, place_same}
use Rattle.bc_machine.proofs.asking.insert_among.Goals as goal
use Rattle.bc_machine.proofs.asking.insert_among.Goals.{then-row-number, then-place-passed+in_default, else-place-passed, else-row-number}

pub returns-in-Some-clause-there : goal.returns-in-Some-clause-there
returns-in-Some-clause-there c =
    among_is c.args.beside.now.lists c.args.rows.now c.args.number c.loop-row.row-index c.args.passed c.loop-row.place c.row-item.result c.in-Some.insertion c.loop-row-test.true c.row-item.is
    c.if-row-number.true (sym c.in-Some.ensures) c.if-place-passed.true c.loop-row.invariant.place c.loop-row.invariant.none

pub loop-row-preserved : goal.loop-row-preserved
loop-row-preserved c =
    let beside = c.args.beside.now.lists in
    let rows = c.args.rows.now in
    let n = c.args.number in
    let i = c.loop-row.row-index in
    let row = c.row-item.result in
    elim c.if-row-number.branch [
      | then-row-number w ↦ record {
        few = omega (arith, w.place-is, c.loop-row.invariant.few);
        place = w.place-is ∙ place_more beside rows n i c.loop-row.place row c.loop-row-test.true c.row-item.is w.if-row-number.true c.loop-row.invariant.place;
        none = none_more beside rows n i c.args.passed row c.loop-row-test.true c.row-item.is
            (λ number le. elim w.if-place-passed.branch [
              | then-place-passed+in_default v ↦ sym v.in_default.ensures
              | else-place-passed v ↦ absurd (omega (arith, v.if-place-passed.false, le, c.loop-row.invariant.place))
            ]) c.loop-row.invariant.none;
      }
      | else-row-number w ↦ record {
        few = omega (arith, w.place-is, c.loop-row.invariant.few);
        place = w.place-is ∙ c.loop-row.invariant.place ∙ ap length (sym (place_same beside rows n i row c.loop-row-test.true c.row-item.is w.if-row-number.false));
        none = none_more beside rows n i c.args.passed row c.loop-row-test.true c.row-item.is (λ number le. absurd (w.if-row-number.false number)) c.loop-row.invariant.none;
      }
    ]
