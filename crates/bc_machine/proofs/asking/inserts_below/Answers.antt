use Rattle.std.proofs.Common.{◌≤◌, ◌<◌, length, sym, ap, ◌∙◌, arith}
use Rattle.bc_machine.specs.Agendas.{inserts_among}
use Rattle.bc_machine.proofs.Left.{below_next, below_not, below_outside, up_to_nothing}
use Rattle.bc_machine.proofs.asking.inserts_below.Goals as goal
use Rattle.bc_machine.proofs.asking.inserts_below.Goals.{then-row-ge1+then-row-number+then-is_insert, else-row-ge1, else-row-ge1-via-then-row-ge1+then-row-number+else-is_insert}
use Rattle.bc_machine.proofs.asking.inserts_below.Goals.{else-row-ge1-via-then-row-ge1+else-row-number, else-row-ge1-via-else-row-ge1}

pub loop-row-init : goal.loop-row-init
loop-row-init c = record { few = omega arith; count = sym (ap (λ ps. length (inserts_among ps)) (up_to_nothing c.args.number)) }

pub loop-row-preserved : goal.loop-row-preserved
loop-row-preserved c =
    let beside = c.args.beside.now.lists in
    let rows = c.args.rows.now in
    let n = c.args.number in
    let i = c.loop-row.row-index in
    let row = c.row-item.result in
    elim c.if-row-ge1.branch [
      | then-row-ge1+then-row-number+then-is_insert w ↦
          let more = below_next beside rows n i row c.loop-row-test.true c.row-item.is w.if-row-ge1.true w.if-row-number.true (sym w.is_insert.ensures ∙ w.if-is_insert.true) in
          record { few = omega (arith, w.count-is, c.loop-row.invariant.few); count = omega (arith, w.count-is, c.loop-row.invariant.count, more) }
      | else-row-ge1 w ↦
          elim w.else-row-ge1.branch [
            | else-row-ge1-via-then-row-ge1+then-row-number+else-is_insert v ↦
                let more = below_not beside rows n i row c.loop-row-test.true c.row-item.is (sym v.is_insert.ensures ∙ v.if-is_insert.false) in
                record { few = omega (arith, w.count-is, c.loop-row.invariant.few); count = omega (arith, w.count-is, c.loop-row.invariant.count, more) }
            | else-row-ge1-via-then-row-ge1+else-row-number v ↦
                let out : 1 ≤ row.number → n < row.number = λ low. omega (arith, v.if-row-number.false) in
                let more = below_outside beside rows n i row c.loop-row-test.true c.row-item.is out in
                record { few = omega (arith, w.count-is, c.loop-row.invariant.few); count = omega (arith, w.count-is, c.loop-row.invariant.count, more) }
            | else-row-ge1-via-else-row-ge1 v ↦
                let out : 1 ≤ row.number → n < row.number = λ low. omega (arith, v.if-row-ge1.false, low) in
                let more = below_outside beside rows n i row c.loop-row-test.true c.row-item.is out in
                record { few = omega (arith, w.count-is, c.loop-row.invariant.few); count = omega (arith, w.count-is, c.loop-row.invariant.count, more) }
          ]
    ]
