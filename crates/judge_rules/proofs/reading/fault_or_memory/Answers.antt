use Rattle.std.proofs.Common.{◌≡◌, ◌+◌, refl, sym, arith}
use Rattle.std.specs.Prelude.{Some, None, Ok, Err}
use Rattle.std.proofs.lemmas.Bool.{ne_eqb}
use Rattle.judge_rules.specs.Lines.{said}
use Rattle.text_lines.specs.Lines.{text_lines}
use Rattle.judge_rules.specs.Parts.{parts_of}
use Rattle.judge_rules.specs.Rules.{rules_from}
use Rattle.judge_rules.proofs.Prefixes.{from-fault, from-many, from-none, from-rule, fits-more}
use Rattle.judge_rules.proofs.reading.fault_or_memory.Goals as goal
use Rattle.judge_rules.proofs.reading.fault_or_memory.Goals.{in-None, in-Some-Ok+else-rules-eq-MOST_RULES}

pub returns-in-Some-Err : goal.returns-in-Some-Err
returns-in-Some-Err c =
    let l = c.loop-first in
    let says : said l.next c.in-Some.first.now ≡ Some (Err c.in-Some-Err.fault) = sym (rw c.in-Some-Err.field-0-is at c.in-Some-Err.ensures.value) in
    l.invariant.fits _ (rw (c.in-Some.ensures.lines, from-fault l.rules l.next c.in-Some.first.now (text_lines c.in-Some.behind.now) c.in-Some-Err.fault says) refl)

pub returns-then-rules-eq-MOST_RULES : goal.returns-then-rules-eq-MOST_RULES
returns-then-rules-eq-MOST_RULES c =
    let l = c.loop-first in
    let says : said l.next c.in-Some.first.now ≡ Some (Ok (parts_of c.in-Some-Ok.field-0-0)) = sym (rw c.in-Some-Ok.field-0-is at c.in-Some-Ok.ensures.value) in
    l.invariant.fits _ (rw (c.in-Some.ensures.lines, from-many l.rules l.next c.in-Some.first.now (text_lines c.in-Some.behind.now) (parts_of c.in-Some-Ok.field-0-0) says c.if-rules-eq-MOST_RULES.true) refl)

pub returns : goal.returns
returns c =
    let l = c.loop-first in
    l.invariant.fits _ (rw (c.in_default.ensures.lines, ne_eqb l.rules 0 (λ (e : l.rules ≡ 0). absurd (omega arith))) refl)

pub loop-first-preserved : goal.loop-first-preserved
loop-first-preserved c =
    let l = c.loop-first in
    elim c.match-read_line.branch [
      | in-None w ↦
          let says : said l.next c.in-Some.first.now ≡ None = sym (rw w.in-None.is at c.read_line.ensures.value) in
          record {
            some = omega arith;
            most = omega arith;
            line = omega (arith, c.in-Some.ensures.shorter, l.invariant.line);
            fits = λ e h. l.invariant.fits e (rw (c.in-Some.ensures.lines, from-none l.rules l.next c.in-Some.first.now (text_lines c.in-Some.behind.now) says) (rw w.rules-is at h));
          }
      | in-Some-Ok+else-rules-eq-MOST_RULES w ↦
          let says : said l.next c.in-Some.first.now ≡ Some (Ok (parts_of w.in-Some-Ok.field-0-0)) = sym (rw w.in-Some-Ok.field-0-is at w.in-Some-Ok.ensures.value) in
          record {
            some = omega arith;
            most = omega arith;
            line = omega (arith, c.in-Some.ensures.shorter, l.invariant.line);
            fits = λ e h. l.invariant.fits e (
                rw (c.in-Some.ensures.lines, from-rule l.rules l.next c.in-Some.first.now (text_lines c.in-Some.behind.now) (parts_of w.in-Some-Ok.field-0-0) says w.if-rules-eq-MOST_RULES.false)
                (fits-more c.args.line e (parts_of w.in-Some-Ok.field-0-0) (rules_from (l.rules + 1) (l.next + 1) (text_lines c.in-Some.behind.now)) (rw w.rules-is at h))
                );
          }
    ]
