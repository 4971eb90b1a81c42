use Rattle.std.proofs.Common.{◌≡◌, Bool, true, List, drop, sym, ap, ◌∙◌, rules}
use Rattle.std.specs.Prelude.{Ok, Err, codes, if◌then◌else◌}
use Rattle.text_lines.specs.Words.{Text, begins_with}
use Rattle.judge_rules.specs.declared.fault.RuleFault.TheVariants.{Word}
use Rattle.judge_rules.specs.Faults.{Read, made}
use Rattle.judge_rules.specs.Lines.{rule_behind, rule_in, with_line}
use Rattle.judge_rules.specs.Parts.{Parts}
use Rattle.judge_rules.proofs.Ranges.{made_in_range}
use Rattle.judge_rules.proofs.line_rules.read_words.Goals as goal

pub rule_of-requires : goal.rule_of-requires
rule_of-requires c =
    let arm = c.in_ok-channel in
    made_in_range c.takes.new.self arm.channel arm.bus arm.span arm.selector arm.check (sym c.in_ok-channel.ensures)

pub returns-clause-value : goal.returns-clause-value
unfolding rule_in
returns-clause-value c =
    let line = c.args.line in
    let words = c.args.words.now in
    let begins : begins_with (codes "expect") words ≡ true = search rules in
    let rest : c.takes.new.self ≡ drop 1 words = search rules in
    ap (λ (p : Parts). let read : Read Parts = Ok p in read) c.rule_of.ensures
    ∙ ap (made (with_line line)) c.in_ok-channel.ensures
    ∙ ap (λ (r : List Text). rule_behind line r) rest
    ∙ sym (ap (λ (b : Bool). let read : Read Parts = (if b then rule_behind line (drop 1 words) else Err Word) in read) begins)
