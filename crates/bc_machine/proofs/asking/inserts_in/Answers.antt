use Rattle.std.proofs.Common.{sym, ◌∙◌, arith}
use Rattle.bc_machine.proofs.Left.{insert_next, insert_not}
use Rattle.bc_machine.proofs.asking.inserts_in.Goals as goal
use Rattle.bc_machine.proofs.asking.inserts_in.Goals.{then-is_insert, else-is_insert}

pub loop-row-preserved : goal.loop-row-preserved
loop-row-preserved c =
    elim c.if-is_insert.branch [
      | then-is_insert w ↦
          let more = insert_next c.args.beside.now.lists c.args.rows.now c.loop-row.row-index c.row-item.result c.loop-row-test.true c.row-item.is (sym c.is_insert.ensures ∙ w.if-is_insert.true) in
          record { few = omega (arith, w.count-is, c.loop-row.invariant.few); count = omega (arith, w.count-is, c.loop-row.invariant.count, more) }
      | else-is_insert w ↦
          let more = insert_not c.args.beside.now.lists c.args.rows.now c.loop-row.row-index c.row-item.result c.loop-row-test.true c.row-item.is (sym c.is_insert.ensures ∙ w.if-is_insert.false) in
          record { few = omega (arith, w.count-is, c.loop-row.invariant.few); count = omega (arith, w.count-is, c.loop-row.invariant.count, more) }
    ]
