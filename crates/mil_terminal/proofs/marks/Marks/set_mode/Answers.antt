use Rattle.std.proofs.Common.{rules, arith, refl, ◌∙◌, true, false}
use Rattle.mil_terminal.proofs.Bits.{mode_on, mode_off, modes_set, marks_stay}
use Rattle.mil_terminal.proofs.marks.Marks.set_mode.Goals as goal

pub returns-then-on-clause-modes : goal.returns-then-on-clause-modes
returns-then-on-clause-modes c = rw c.if-on.true (modes_set c.args.self.now _ c.args.mark true (mode_on c.args.self.now.rows c.args.mark c.row_of-row.result c.from-place.result (search rules) (c.row_of-row.ensures.value ∙ rw c.transmit.ensures refl) (c.from-place.ensures ∙ rw c.code.ensures.value refl) (omega arith)))

pub returns-then-on-clause-marks : goal.returns-then-on-clause-marks
returns-then-on-clause-marks c = marks_stay c.args.self.now _ c.args.mark true (mode_on c.args.self.now.rows c.args.mark c.row_of-row.result c.from-place.result (search rules) (c.row_of-row.ensures.value ∙ rw c.transmit.ensures refl) (c.from-place.ensures ∙ rw c.code.ensures.value refl) (omega arith))

pub returns-else-on-clause-modes : goal.returns-else-on-clause-modes
returns-else-on-clause-modes c = rw c.if-on.false (modes_set c.args.self.now _ c.args.mark false (mode_off c.args.self.now.rows c.args.mark c.row_of-row.result c.from-place.result (search rules) (c.row_of-row.ensures.value ∙ rw c.transmit.ensures refl) (c.from-place.ensures ∙ rw c.code.ensures.value refl) (omega arith)))

pub returns-else-on-clause-marks : goal.returns-else-on-clause-marks
returns-else-on-clause-marks c = marks_stay c.args.self.now _ c.args.mark false (mode_off c.args.self.now.rows c.args.mark c.row_of-row.result c.from-place.result (search rules) (c.row_of-row.ensures.value ∙ rw c.transmit.ensures refl) (c.from-place.ensures ∙ rw c.code.ensures.value refl) (omega arith))
