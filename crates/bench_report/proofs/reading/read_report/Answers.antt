use Rattle.std.proofs.Common.{◌≡◌, refl, arith}
use Rattle.std.specs.Prelude.{None, Some}
use Rattle.text_lines.specs.Lines.{text_lines}
use Rattle.bench_report.specs.Drafts.{no_lines, with_lines}
use Rattle.bench_report.proofs.Drafted.{spelled}
use Rattle.bench_report.proofs.Taken.{spells_none}
use Rattle.bench_report.proofs.ReadLines.{none_left, read_one, left_refused, first_fault, last_missing}
use Rattle.bench_report.proofs.reading.read_report.Goals as goal

pub returns-in-Err-clause-refused : goal.returns-in-Err-clause-refused
returns-in-Err-clause-refused c refusal =
    let l = c.loop-first in
    let none : with_lines (text_lines c.args.text.now) no_lines ≡ None =
    left_refused c.args.text.now l.rest.now c.in-Some.first.now c.in-Some.behind.now l.draft l.line c.in-Err.fault l.invariant.0 c.in-Some.ensures.lines c.in-Err.ensures refusal
    in
    spells_none c.args.text.now (rw none refl)

pub returns-in-Err-clause-first : goal.returns-in-Err-clause-first
returns-in-Err-clause-first c =
    let l = c.loop-first in
    first_fault c.args.text.now l.rest.now c.in-Some.first.now c.in-Some.behind.now l.draft l.line c.in-Err.fault l.invariant.0 c.in-Some.ensures.lines c.in-Err.ensures

pub returns-in-Ok-clause-spelled : goal.returns-in-Ok-clause-spelled
returns-in-Ok-clause-spelled c =
    let l = c.loop-first in
    let all : with_lines (text_lines c.args.text.now) no_lines ≡ Some l.draft = none_left c.args.text.now l.rest.now l.draft l.line l.invariant.0 c.in_default.ensures.lines in
    spelled c.args.text.now l.draft c.in-Ok.report all c.in-Ok.ensures.value

pub returns-in-Err-finish-clause-refused : goal.returns-in-Err-finish-clause-refused
returns-in-Err-finish-clause-refused c refusal =
    let l = c.loop-first in
    let all : with_lines (text_lines c.args.text.now) no_lines ≡ Some l.draft = none_left c.args.text.now l.rest.now l.draft l.line l.invariant.0 c.in_default.ensures.lines in
    spells_none c.args.text.now (rw (all, c.in-Err-finish.ensures.value) refl)

pub returns-in-Err-finish-clause-first : goal.returns-in-Err-finish-clause-first
returns-in-Err-finish-clause-first c =
    let l = c.loop-first in
    rw c.in-Err-finish.ensures.order (last_missing c.args.text.now l.rest.now l.draft l.line l.invariant.0 c.in_default.ensures.lines c.in-Err-finish.ensures.value)

pub loop-first-preserved : goal.loop-first-preserved
loop-first-preserved c =
    let l = c.loop-first in (
      read_one c.args.text.now l.rest.now c.in-Some.first.now c.in-Some.behind.now l.draft c.take_text.new.self l.line l.invariant.0 c.in-Some.ensures.lines c.in_default-take_text.ensures,
      omega (arith, c.in-Some.ensures.shorter, l.invariant.1),
    )
