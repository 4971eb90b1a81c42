use Rattle.std.proofs.Common.{◌≡◌, ◌<◌, ◌∙◌, length, refl, arith}
use Rattle.std.specs.Prelude.{◌||◌}
use Rattle.bench_step.proofs.GoingOn.{begins, line_bytes, still_on, quits, all_lines, cut_short}
use Rattle.bench_step.proofs.sessions.answer_all.Goals as goal
use Rattle.bench_step.proofs.sessions.answer_all.Goals.{then-refused, else-refused}

pub lines-init : goal.lines-init
lines-init g c =
    record { on = begins c.args.session.now.manner c.args.session.now.debugger _ _; manner = refl; waits = c.requires }

pub returns-in-Err-clause-first : goal.returns-in-Err-clause-first
returns-in-Err-clause-first g c = cut_short _ _ _ _ _ _ _ _ _ _ c.lines.invariant.on c.of_reader.ensures

pub lines-preserved : goal.lines-preserved
lines-preserved g c =
    let some : 0 < length c.deref.result.now = omega (arith, c.deref.ensures.len, c.in-Ok.ensures.ok, c.clear.ensures.len, c.in-Ok.field-0-is) in
    let gave = line_bytes _ _ _ c.deref.result.now c.clear.ensures.items c.deref.ensures.value c.in-Ok.ensures.bytes in
    let both : c.if-refused.refused ≡ (c.lines.refused || c.in-Ok-answer.this.refused) =
    elim c.if-refused.branch [ then-refused w ↦ rw (w.refused-is, w.if-refused.true) refl | else-refused w ↦ rw (w.refused-is, w.if-refused.false) refl ] in
    record {
      on =
          still_on _ _ _ _ _ _ _ _ _ _ _ c.deref.result.now _ _ _ _ c.lines.invariant.on c.if-this.false some c.without_end.ensures gave c.in-Ok.ensures.rest
          (rw c.lines.invariant.manner at c.in-Ok-answer.ensures.answered) both;
      manner = c.in-Ok-answer.ensures.manner ∙ c.lines.invariant.manner;
      waits = c.in-Ok-answer.ensures.waits;
    }

pub returns-in-Ok-eq0-clause-all : goal.returns-in-Ok-eq0-clause-all
returns-in-Ok-eq0-clause-all g c =
    all_lines _ _ _ _ _ _ _ _ _ c.lines.invariant.on (c.in-Ok-eq0.ensures.end c.in-Ok-eq0.field-0-test) c.in-Ok-eq0.ensures.rest

pub returns-then-this-clause-all : goal.returns-then-this-clause-all
returns-then-this-clause-all g c =
    let some : 0 < length c.deref.result.now = omega (arith, c.deref.ensures.len, c.in-Ok.ensures.ok, c.clear.ensures.len, c.in-Ok.field-0-is) in
    let gave = line_bytes _ _ _ c.deref.result.now c.clear.ensures.items c.deref.ensures.value c.in-Ok.ensures.bytes in
    let both : c.if-refused.refused ≡ (c.lines.refused || c.in-Ok-answer.this.refused) =
    elim c.if-refused.branch [ then-refused w ↦ rw (w.refused-is, w.if-refused.true) refl | else-refused w ↦ rw (w.refused-is, w.if-refused.false) refl ] in
    quits _ _ _ _ _ _ _ _ _ _ _ c.deref.result.now _ _ _ _ c.lines.invariant.on c.if-this.true some c.without_end.ensures gave c.in-Ok.ensures.rest
    (rw c.lines.invariant.manner at c.in-Ok-answer.ensures.answered) both
