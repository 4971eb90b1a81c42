use Rattle.std.proofs.Common.{drop, ap, sym, ◌∙◌}
use Rattle.std.specs.Prelude.{Option, Some}
use Rattle.judge_rules.specs.declared.checks.CheckName.{CheckName}
use Rattle.judge_rules.specs.Checks.{check_behind, count_in}
use Rattle.judge_rules.proofs.Spelling.{check_named}
use Rattle.judge_rules.proofs.checks.read_check.Goals as goal

pub returns-in-Count : goal.returns-in-Count
returns-in-Count c =
    let words = c.args.words.now in
    let named = sym c.name_of.ensures ∙ c.in-Some-name_of.is ∙ ap (λ (n : CheckName). Some n) c.in-Count.is in
    c.read_count.ensures
    ∙ ap count_in c.next.ensures.rest
    ∙ sym (check_named words c.in-Some.word.now c.in-Some.ensures.word ∙ ap (λ (name : Option CheckName). check_behind name (drop 1 words)) named)
