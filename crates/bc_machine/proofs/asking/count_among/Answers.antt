use Rattle.std.proofs.Common.{arith}
use Rattle.bc_machine.specs.Beside.{nothing_beside}
use Rattle.bc_machine.proofs.Left.{count_yes, count_no}
use Rattle.bc_machine.proofs.asking.count_among.Goals as goal
use Rattle.bc_machine.proofs.asking.count_among.Goals.{then-row-number, else-row-number}

pub loop-row-preserved : goal.loop-row-preserved
loop-row-preserved c =
    elim c.if-row-number.branch [
      | then-row-number w ↦
          let more = count_yes nothing_beside c.args.rows.now c.args.number c.loop-row.row-index c.row-item.result c.loop-row-test.true c.row-item.is w.if-row-number.true in
          record { few = omega (arith, w.count-is, c.loop-row.invariant.few); count = omega (arith, w.count-is, c.loop-row.invariant.count, more) }
      | else-row-number w ↦
          let more = count_no nothing_beside c.args.rows.now c.args.number c.loop-row.row-index c.row-item.result c.loop-row-test.true c.row-item.is w.if-row-number.false in
          record { few = omega (arith, w.count-is, c.loop-row.invariant.few); count = omega (arith, w.count-is, c.loop-row.invariant.count, more) }
    ]
