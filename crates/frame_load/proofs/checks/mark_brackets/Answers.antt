use Rattle.std.proofs.Common.{◌≢◌, ◌-◌, ◌<◌, get_or, refl, sym, ap, ◌∙◌, arith}
use Rattle.frame_code.specs.declared.Op.TheVariants.{Halt}
use Rattle.frame_code.specs.Loadable.{open_at}
use Rattle.frame_load.specs.Marks.{innermost}
use Rattle.frame_load.proofs.Marks.{op_at, is_opening, is_closing, no_opening, no_closing, more_marks, innermost_below, mark_opened, out_same, back_out, mark_other}
use Rattle.std.proofs.lemmas.List.{get_or-set_other}
use Rattle.frame_load.proofs.checks.mark_brackets.Goals as goal
use Rattle.frame_load.proofs.checks.mark_brackets.Goals.{in-Loop, in-Again+then-current-eq0, in-Again+else-current-eq0, in_default}

pub bounds-brackets-current : goal.bounds-brackets-current
bounds-brackets-current c = omega (arith, innermost_below c.args.operations.now c.loop-i.i)

pub loop-i-preserved : goal.loop-i-preserved
loop-i-preserved c =
    let os = c.args.operations.now in
    let i = c.loop-i.i in
    let cur = c.loop-i.current in
    let o = get_or os i Halt in
    let at = op_at os i Halt o c.loop-i-test.true refl in
    record {
      now = elim c.match-operations-i.branch [
        | in-Loop w ↦ w.current-is ∙ sym (mark_opened os i o (is_opening o w.in-Loop.is) at)
        | in-Again+then-current-eq0 w ↦ w.current-is ∙ sym (ap innermost (out_same os i o (is_closing o w.in-Again.is) at (sym c.loop-i.invariant.now ∙ w.if-current-eq0.true)) ∙ sym c.loop-i.invariant.now ∙ w.if-current-eq0.true)
        | in-Again+else-current-eq0 w ↦
            let lt : cur - 1 < i = omega (arith, innermost_below os i, w.if-current-eq0.false) in
            let apart : cur - 1 ≢ i = λ e. omega (arith, e, lt) in
            w.current-is ∙ get_or-set_other c.loop-i.brackets i (cur - 1) cur 0 apart ∙ c.loop-i.invariant.so_far (cur - 1) lt
            ∙ ap (λ v. innermost (open_at os (v - 1))) c.loop-i.invariant.now
            ∙ sym (ap innermost (back_out os i o (is_closing o w.in-Again.is) at (λ z. w.if-current-eq0.false (c.loop-i.invariant.now ∙ z))))
        | in_default w ↦ w.current-is ∙ c.loop-i.invariant.now ∙ sym (ap innermost (mark_other os i o at (no_opening o w.in_default.not-Loop w.in_default.not-Begin) (no_closing o w.in_default.not-Again w.in_default.not-Pace)))
      ];
      so_far = more_marks (λ p. innermost (open_at os p)) c.loop-i.brackets i cur (omega arith) c.loop-i.invariant.so_far c.loop-i.invariant.now;
    }
