use Rattle.std.proofs.Common.{◌++◌, ◌∙◌, ap}
use Rattle.text_lines.specs.Words.{Text}
use Rattle.bench_judge.specs.Junit.{case_end, case_head, cases, told_lines}
use Rattle.bench_judge.specs.Names.{rule_text}
use Rattle.bench_judge.specs.Streaming.{passed_of}
use Rattle.bench_judge.proofs.Cases.{case_more}
use Rattle.bench_judge.proofs.Putting.{then_put}
use Rattle.bench_judge.proofs.junit.put_cases.Goals as goal

pub rules-preserved : goal.rules-preserved
rules-preserved g c =
    let text = c.args.judged.text.now in
    let skips = c.args.judged.skips.now in
    let v = c.in-Some-split_first.verdict.now in
    let rule = c.in-Some.rule.now in
    let name = c.at-name.result.now in
    record {
      text = c.at-name.ensures.text ∙ c.rules.invariant.text;
      left = c.at-name.ensures.left;
      written = λ file known.
          let p = passed_of c.args.judged.origins.now file in
          let from = c.args.judged.file.now in
          let put =
          then_put c.rules.text.items c.put_case_head.new.text.items c.put_case_end.new.text.items (case_head v name) (case_end from name rule.check v (told_lines skips rule v p)) c.in_ok-put_case_head.ensures
          (c.in_ok-put_case_end.ensures file known) in
          case_more from text skips c.rules.rules.now c.in-Some.more.now rule c.rules.verdicts.now c.in-Some-split_first.others.now v p name c.rules.text.items c.put_case_end.new.text.items
          (c.args.text.now.items ++ cases from text skips c.args.judged.rules.now c.args.judged.verdicts.now p) c.in-Some.ensures.cases.0 c.in-Some-split_first.ensures.cases.0 (c.at-name.ensures.name ∙ ap (λ (t : Text). rule_text t v.line) c.rules.invariant.text)
          put (c.rules.invariant.written file known);
    }
