use Rattle.std.proofs.Common.{◌≡◌, ◌∙◌, ap, arith, inl, length, refl, subst, sym}
use Rattle.signal_judge.specs.Rules.{IsFaultOf}
use Rattle.signal_judge.specs.Taking.{many}
use Rattle.signal_judge.proofs.OfText.{reading-all, reading-empty, reading-none}
use Rattle.signal_judge.proofs.reading.read_all_rules.Goals as goal

pub lines-init : goal.lines-init
lines-init c = record {
  few = omega (arith, ap length c.none-rules.ensures.plain, ap length c.none-rules.ensures.signals);
  line = omega arith;
  reading = reading-none c.args.signals.now c.args.text.now c.none-rules.result c.none-rules.ensures.plain c.none-rules.ensures.signals;
}

pub lines-preserved : goal.lines-preserved
lines-preserved c = record {
  few = c.in-Ok.ensures.few;
  line = omega (arith, c.in-Some.ensures.shorter, c.lines.invariant.line);
  reading = c.in-Ok.ensures.read c.args.text.now c.lines.rest.now c.in-Some.behind.now c.lines.invariant.reading c.in-Some.ensures.lines;
}

pub returns-in-Err-clause-fault : goal.returns-in-Err-clause-fault
returns-in-Err-clause-fault c = c.in-Err.ensures.fault c.args.text.now c.lines.rest.now c.in-Some.behind.now c.lines.invariant.reading c.in-Some.ensures.lines

pub returns-then-empty-clause-fault : goal.returns-then-empty-clause-fault
returns-then-empty-clause-fault c =
    let none : many c.lines.rules ≡ 0 = omega (arith, c.count-found.ensures (omega (arith, c.lines.invariant.few)), c.if-empty.true) in
    subst (IsFaultOf _) (sym (reading-empty c.args.signals.now c.args.text.now c.lines.rules c.lines.line c.lines.rest.now c.lines.invariant.reading c.in_default.ensures.lines none)) (inl refl)

pub returns-clause-rules : goal.returns-clause-rules
returns-clause-rules c =
    let some : many c.lines.rules ≡ 0 → ⊥ = λ (e : many c.lines.rules ≡ 0). absurd (c.if-empty.false (c.count-found.ensures (omega (arith, c.lines.invariant.few)) ∙ e)) in
    reading-all c.args.signals.now c.args.text.now c.lines.rules c.lines.line c.lines.rest.now c.lines.invariant.reading c.in_default.ensures.lines some
