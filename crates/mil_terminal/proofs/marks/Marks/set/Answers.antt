use Rattle.std.proofs.Common.{rules, arith, refl, ◌∙◌, true, false}
use Rattle.mil_terminal.proofs.Bits.{is_set_on, is_set_off, modes_stay}
use Rattle.mil_terminal.proofs.marks.Marks.set.Goals as goal

pub returns-then-on-clause-marks : goal.returns-then-on-clause-marks
returns-then-on-clause-marks c = rw c.if-on.true
    (is_set_on c.args.self.now.rows c.args.mark c.row_of-row.result c.from-place.result (search rules) (c.row_of-row.ensures.value ∙ rw (c.transmit.ensures, c.sub.ensures.value) refl) (c.from-place.ensures ∙ rw c.count.ensures.value refl) (omega arith) (omega arith) (omega arith))

pub returns-else-on-clause-marks : goal.returns-else-on-clause-marks
returns-else-on-clause-marks c = rw c.if-on.false
    (is_set_off c.args.self.now.rows c.args.mark c.row_of-row.result c.from-place.result (search rules) (c.row_of-row.ensures.value ∙ rw (c.transmit.ensures, c.sub.ensures.value) refl) (c.from-place.ensures ∙ rw c.count.ensures.value refl) (omega arith) (omega arith) (omega arith))

pub returns-then-on-clause-modes : goal.returns-then-on-clause-modes
returns-then-on-clause-modes c =
    modes_stay c.args.self.now _ c.args.mark true (omega arith)
    (is_set_on c.args.self.now.rows c.args.mark c.row_of-row.result c.from-place.result (search rules) (c.row_of-row.ensures.value ∙ rw (c.transmit.ensures, c.sub.ensures.value) refl) (c.from-place.ensures ∙ rw c.count.ensures.value refl) (omega arith) (omega arith) (omega arith))

pub returns-else-on-clause-modes : goal.returns-else-on-clause-modes
returns-else-on-clause-modes c =
    modes_stay c.args.self.now _ c.args.mark false (omega arith)
    (is_set_off c.args.self.now.rows c.args.mark c.row_of-row.result c.from-place.result (search rules) (c.row_of-row.ensures.value ∙ rw (c.transmit.ensures, c.sub.ensures.value) refl) (c.from-place.ensures ∙ rw c.count.ensures.value refl) (omega arith) (omega arith) (omega arith))
