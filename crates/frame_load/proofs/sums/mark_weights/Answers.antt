use Rattle.std.proofs.Common.{◌≢◌, ◌+◌, ◌-◌, ◌^◌, ◌<◌, get_or, min, refl, sym, ap, ◌∙◌, arith}
use Rattle.frame_code.specs.declared.Op.TheVariants.{Halt}
use Rattle.frame_load.specs.Budget.{weight, weight_in}
use Rattle.frame_load.proofs.Marks.{op_at, is_closing, no_closing, more_marks, innermost_below, back_out, out_same, other_weight, mark_weight}
use Rattle.std.proofs.lemmas.List.{get_or-set_other}
use Rattle.frame_load.proofs.sums.mark_weights.Goals as goal
use Rattle.frame_load.proofs.sums.mark_weights.Goals.{in-Loop, in-Again+then-brackets-i-eq0, in-Again+else-brackets-i-eq0, in_default}

pub bounds-weights-brackets : goal.bounds-weights-brackets
bounds-weights-brackets c = omega (arith, innermost_below c.args.operations.now c.loop-i.i, c.requires.marked c.loop-i.i c.loop-i-test.true)

pub loop-i-preserved : goal.loop-i-preserved
loop-i-preserved c =
    let os = c.args.operations.now in
    let i = c.loop-i.i in
    let cur = c.loop-i.current in
    let cap = 2 ^ 46 + 1 in
    let o = get_or os i Halt in
    let at = op_at os i Halt o c.loop-i-test.true refl in
    let mark = c.requires.marked i c.loop-i-test.true in
    record {
      now = elim c.match-operations-i.branch [
        | in-Loop w ↦ mark_weight cap os i w.in-Loop.n _ cur c.requires.range (op_at os i Halt _ c.loop-i-test.true w.in-Loop.is) c.loop-i.invariant.now (omega (arith, w.min-current.ensures, w.current-is))
        | in-Again+then-brackets-i-eq0 w ↦ w.current-is ∙ c.loop-i.invariant.now ∙ sym (ap (λ st. min cap (weight_in os st)) (out_same os i o (is_closing o w.in-Again.is) at (sym mark ∙ w.if-brackets-i-eq0.true)))
        | in-Again+else-brackets-i-eq0 w ↦
            let m = get_or c.args.brackets.now i 0 in
            let lt : m - 1 < i = omega (arith, innermost_below os i, mark, w.if-brackets-i-eq0.false) in
            let apart : m - 1 ≢ i = λ e. omega (arith, e, lt) in
            w.current-is ∙ get_or-set_other c.loop-i.weights i (m - 1) cur 0 apart ∙ c.loop-i.invariant.so_far (m - 1) lt
            ∙ ap (λ v. min cap (weight os (v - 1))) mark
            ∙ sym (ap (λ st. min cap (weight_in os st)) (back_out os i o (is_closing o w.in-Again.is) at (λ z. w.if-brackets-i-eq0.false (mark ∙ z))))
        | in_default w ↦ w.current-is ∙ c.loop-i.invariant.now ∙ sym (ap (min cap) (other_weight os i o at w.in_default.not-Loop (no_closing o w.in_default.not-Again w.in_default.not-Pace)))
      ];
      so_far = more_marks (λ p. min cap (weight os p)) c.loop-i.weights i cur (omega arith) c.loop-i.invariant.so_far c.loop-i.invariant.now;
    }
