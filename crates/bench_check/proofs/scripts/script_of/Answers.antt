use Rattle.std.proofs.Common.{◌≡◌, length, sym, ap, ◌∙◌, arith}
use Rattle.std.specs.Prelude.{Some, true, false}
use Rattle.std.specs.List.{before_first}
use Rattle.std.proofs.lemmas.Bool.Decides.{nat_tests}
use Rattle.job_file.specs.Lines.{said}
use Rattle.job_file.specs.Spelled.{is_script}
use Rattle.text_lines.specs.Lines.{is_line_end}
use Rattle.bench_check.specs.Scripts.{script_in}
use Rattle.bench_check.proofs.Heads.{found, passed, none_left}
use Rattle.bench_check.proofs.scripts.script_of.Goals as goal

pub returns-then-is_script : goal.returns-then-is_script
returns-then-is_script c =
    let rest = c.loop-rest.rest.now in
    let is : is_script (said (before_first is_line_end rest)) ≡ true = sym (c.is_script.ensures ∙ ap (λ line. is_script (said line)) c.split_line.ensures.line) ∙ c.if-is_script.true in
    c.loop-rest.invariant ∙ found rest is ∙ ap Some (sym c.split_line.ensures.rest)

pub loop-rest-preserved : goal.loop-rest-preserved
loop-rest-preserved c =
    let rest = c.loop-rest.rest.now in
    let is : is_script (said (before_first is_line_end rest)) ≡ false = sym (c.is_script.ensures ∙ ap (λ line. is_script (said line)) c.split_line.ensures.line) ∙ c.if-is_script.false in
    c.loop-rest.invariant ∙ passed rest is ∙ ap script_in (sym c.split_line.ensures.rest)

pub returns : goal.returns
returns c =
    let none : length c.loop-rest.rest.now ≡ 0 = grind (arith, nat_tests) in
    c.loop-rest.invariant ∙ none_left c.loop-rest.rest.now none
