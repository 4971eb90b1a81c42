use Rattle.std.proofs.Common.{◌≡◌, ◌+◌, ◌≤◌, [], ◌∙◌, ap, length, arith}
use Rattle.std.specs.Prelude.{Ok, true}
use Rattle.std.proofs.lemmas.Bool.Decides.{nat_tests}
use Rattle.std.proofs.lemmas.Result.{IfOk-at_ok, IfErr-at_err}
use Rattle.job_file.specs.Lines.{said}
use Rattle.job_file.specs.Reading.{IsLineInRange}
use Rattle.job_file.proofs.HeadLemmas.{written_left, nothing_left, script_taken, script_fits, line_taken, line_refused, fit_at_first}
use Rattle.text_lines.specs.Words.{words}
use Rattle.job_file.specs.HeadLines.{head_of}
use Rattle.job_file.specs.Drafts.{shown}
use Rattle.job_file.specs.Faults.{are_line_words, IsLineRefused}
use Rattle.job_file.proofs.FirstFaults.{read_none, read_one, read_script, read_refused, read_all, behind_shorter}
use Rattle.job_file.proofs.reading.read_head.Goals as goal

pub loop-rest-init : goal.loop-rest-init
loop-rest-init c = ([], c.make-draft.ensures, written_left c.args.text.now, fit_at_first _ c.make-draft.ensures, read_none c.args.text.now _ c.make-draft.ensures, omega arith)

pub returns-in-Ok-Script-clause-read : goal.returns-in-Ok-Script-clause-read
returns-in-Ok-Script-clause-read c =
    let i = c.loop-rest.invariant in
    script_taken _ c.loop-rest.rest.now _ _ i.0 _ _ i.1 i.2 c.split_line.ensures.line c.split_line.ensures.rest _ (c.in-Ok-Script.is ∙ ap Ok c.in-Ok-Script.field-0-is) c.take_line.ensures.taken

pub returns-in-Err-clause-read : goal.returns-in-Err-clause-read
returns-in-Err-clause-read c =
    let i = c.loop-rest.invariant in
    line_refused _ c.loop-rest.rest.now _ _ i.0 _ _ i.1 i.2 c.split_line.ensures.line c.split_line.ensures.rest _ _ _ _ c.in-Err.is c.take_line.ensures.taken c.of_line.ensures

pub loop-rest-preserved : goal.loop-rest-preserved
loop-rest-preserved c =
    let i = c.loop-rest.invariant in
    let some : 1 ≤ length c.loop-rest.rest.now = grind (arith, nat_tests) in
    let is = c.in-Ok-Line.is ∙ ap Ok c.in-Ok-Line.field-0-is in
    let t = line_taken _ c.loop-rest.rest.now _ _ i.0 _ _ i.1 i.2 c.split_line.ensures.line c.split_line.ensures.rest _ is c.take_line.ensures.taken (IfOk-at_ok (λ _. IsLineInRange (said c.split_line.result.0.now)) c.in-Ok-Line.is c.take_line.ensures.range) i.3 in
    let read = read_one c.args.text.now c.loop-rest.rest.now _ _ _ _ c.loop-rest.line i.4 some c.split_line.ensures.line c.split_line.ensures.rest _ is c.take_line.ensures.taken in
    let shorter : length c.split_line.result.1.now + 1 ≤ length c.loop-rest.rest.now = rw c.split_line.ensures.rest (behind_shorter c.loop-rest.rest.now some) in
    (t.0, t.1, t.2, t.3, read, omega (arith, shorter, i.5))

pub returns-clause-read : goal.returns-clause-read
returns-clause-read c =
    let i = c.loop-rest.invariant in
    let none : length c.loop-rest.rest.now ≡ 0 = grind (arith, nat_tests) in
    i.2 ∙ nothing_left i.0 c.loop-rest.rest.now none

pub returns-in-Ok-Script-clause-fit : goal.returns-in-Ok-Script-clause-fit
returns-in-Ok-Script-clause-fit c =
    let i = c.loop-rest.invariant in
    script_fits _ c.loop-rest.rest.now _ _ i.0 _ _ i.1 i.2 c.split_line.ensures.line c.split_line.ensures.rest _ (c.in-Ok-Script.is ∙ ap Ok c.in-Ok-Script.field-0-is) c.take_line.ensures.taken i.3

pub returns-clause-first : goal.returns-clause-first
returns-clause-first c =
    let none : length c.loop-rest.rest.now ≡ 0 = grind (arith, nat_tests) in
    read_all c.args.text.now c.loop-rest.rest.now _ c.loop-rest.line c.loop-rest.invariant.4 none

pub returns-in-Ok-Script-clause-head : goal.returns-in-Ok-Script-clause-head
returns-in-Ok-Script-clause-head c =
    let some : 1 ≤ length c.loop-rest.rest.now = grind (arith, nat_tests) in
    let well = IfOk-at_ok (λ _. are_line_words (words c.split_line.result.0.now) ≡ true) c.in-Ok-Script.is c.take_line.ensures.words in
    read_script c.args.text.now c.loop-rest.rest.now _ _ _ _ c.loop-rest.line c.loop-rest.invariant.4 some c.split_line.ensures.line c.split_line.ensures.rest _ (c.in-Ok-Script.is ∙ ap Ok c.in-Ok-Script.field-0-is) c.take_line.ensures.taken well

pub returns-in-Err-clause-first : goal.returns-in-Err-clause-first
returns-in-Err-clause-first c =
    let some : 1 ≤ length c.loop-rest.rest.now = grind (arith, nat_tests) in
    let refused = IfErr-at_err (λ r. IsLineRefused c.split_line.result.0.now (shown c.loop-rest.draft) r) c.in-Err.is c.take_line.ensures.refused in
    read_refused c.args.text.now c.loop-rest.rest.now _ _ _ (head_of []) c.loop-rest.line c.loop-rest.invariant.4 some c.split_line.ensures.line c.split_line.ensures.rest _ _ refused c.of_line.ensures
