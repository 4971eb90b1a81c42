use Rattle.std.proofs.Common.{◌+◌, List, drop, ap, sym, ◌∙◌}
use Rattle.controller_host.specs.declared.controls.Control.{Control}
use Rattle.bc_machine.specs.Asking.{controls_at, filled_by}
use Rattle.bc_machine.specs.Rows.{all_placed}
use Rattle.bc_machine.proofs.Left.{asks_for, unfilled, controls_some, controls_next, controls_other}
use Rattle.bc_machine.proofs.asking.fill_among.Goals as goal
use Rattle.bc_machine.proofs.asking.fill_among.Goals.{then-row-number+in-Some, then-row-number+in_default, else-row-number}

pub loop-row-preserved : goal.loop-row-preserved
loop-row-preserved c =
    let beside = c.args.beside.now.lists in
    let rows = c.args.rows.now in
    let n = c.args.number in
    let i = c.loop-row.row-index in
    let row = c.row-item.result in
    let less = c.loop-row-test.true in
    let is = c.row-item.is in
    let was = c.loop-row.sent in
    let rest = controls_at n (all_placed beside (drop (i + 1) rows)) in
    elim c.if-row-number.branch [
      | then-row-number+in-Some w ↦
          ap (filled_by rest) (w.sent-is ∙ w.fill.ensures)
          ∙ ap (λ (cs : List Control). filled_by cs was) (sym (controls_some beside rows n i row w.in-Some.control.now less is w.if-row-number.true (asks_for _ w.in-Some.control.now (sym w.in-Some.ensures))))
          ∙ c.loop-row.invariant
      | then-row-number+in_default w ↦
          ap (filled_by rest) w.sent-is
          ∙ sym (unfilled _ rest was (sym w.in_default.ensures))
          ∙ ap (λ (cs : List Control). filled_by cs was) (sym (controls_next beside rows n i row less is w.if-row-number.true))
          ∙ c.loop-row.invariant
      | else-row-number w ↦
          ap (filled_by rest) w.sent-is
          ∙ ap (λ (cs : List Control). filled_by cs was) (sym (controls_other beside rows n i row less is w.if-row-number.false))
          ∙ c.loop-row.invariant
    ]
