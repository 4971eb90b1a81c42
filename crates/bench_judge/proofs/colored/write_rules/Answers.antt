use Rattle.std.proofs.Common.{◌≡◌, ◌∙◌, ap, arith, length, subst}
use Rattle.text_lines.specs.Words.{Text}
use Rattle.bench_judge.specs.Colored.{AppendsSome, IsRuleShown}
use Rattle.bench_judge.specs.Names.{rule_text}
use Rattle.bench_judge.proofs.Showing.{showing-all, showing-more}
use Rattle.bench_judge.proofs.colored.write_rules.Goals as goal

pub rules-preserved : goal.rules-preserved
rules-preserved g c =
    let text = c.args.colored.now.judged.text.now in
    let v = c.in-Some.verdict.now in
    let rule = c.in-Some-split_first.rule.now in
    let mid = g.W.Write.contents c.rules.out in
    let gets = g.W.Write.contents c.write_rule.new.out in
    let named : c.at-name.result.now ≡ rule_text text v.line = c.at-name.ensures.name ∙ ap (λ (t : Text). rule_text t v.line) c.rules.invariant.text in
    record {
      text = c.at-name.ensures.text ∙ c.rules.invariant.text;
      left = c.at-name.ensures.left;
      many = λ same. omega (arith, c.rules.invariant.many same, ap length c.in-Some.ensures.cases.0, ap length c.in-Some-split_first.ensures.cases.0);
      shown =
          showing-more text c.args.colored.now.judged.rules.now c.args.colored.now.judged.verdicts.now c.rules.rules.now c.in-Some-split_first.more.now c.rules.verdicts.now c.in-Some.others.now rule v (g.W.Write.contents c.args.out.now) mid gets c.rules.invariant.shown
          c.in-Some-split_first.ensures.cases.0 c.in-Some.ensures.cases.0 (subst (λ (n : Text). AppendsSome (IsRuleShown n rule.check v) mid gets) named c.in_ok-write_rule.ensures);
    }

pub returns : goal.returns
returns g c = λ same.
    showing-all c.args.colored.now.judged.text.now c.args.colored.now.judged.rules.now c.args.colored.now.judged.verdicts.now c.rules.rules.now c.rules.verdicts.now (g.W.Write.contents c.args.out.now) (g.W.Write.contents c.rules.out) c.rules.invariant.shown (c.rules.invariant.many same)
    c.in_default.ensures.cases
