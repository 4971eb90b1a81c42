use Rattle.std.proofs.Common.{◌≡◌, ◌+◌, ◌≤◌, inl, refl, subst, sym}
use Rattle.std.specs.Prelude.{Some, None, Ok, Err}
use Rattle.judge_rules.specs.declared.fault.RuleError.{RuleError}
use Rattle.signal_judge.specs.Rules.{IsFaultOf, rules_in, said}
use Rattle.signal_judge.specs.Taking.{IsRefused, IsTaken, any_of, many}
use Rattle.signal_judge.proofs.OfText.{few_more, if_refused, on_taken, reading-fault, reading-pass, reading-refused, reading-rule}
use Rattle.signal_judge.proofs.reading.take_line.Goals as goal

pub returns-in-None-clause-read : goal.returns-in-None-clause-read
returns-in-None-clause-read c = λ text rest behind r lines.
    let says : said c.args.signals.now c.args.line c.args.first.now ≡ None = sym (rw c.in-None.is at c.read_any.ensures.value) in
    reading-pass c.args.signals.now text c.args.rules.now c.args.line rest c.args.first.now behind r lines says

pub returns-in-Some-Err-clause-fault : goal.returns-in-Some-Err-clause-fault
returns-in-Some-Err-clause-fault c = λ text rest behind r lines.
    let says : said c.args.signals.now c.args.line c.args.first.now ≡ Some (Err c.in-Some-Err.fault) = sym (rw c.in-Some-Err.field-0-is at c.in-Some-Err.ensures.value) in
    subst (IsFaultOf _) (sym (reading-fault c.args.signals.now text c.args.rules.now c.args.line rest c.args.first.now behind c.in-Some-Err.fault r lines says)) (inl refl)

pub returns-in-Some-Ok-clause-read : goal.returns-in-Some-Ok-clause-read
returns-in-Some-Ok-clause-read c = λ text rest behind r lines.
    let says : said c.args.signals.now c.args.line c.args.first.now ≡ Some (Ok (any_of c.in-Some-Ok.rule)) = sym (rw c.in-Some-Ok.field-0-is at c.in-Some-Ok.ensures.value) in
    on_taken (IsTaken c.args.rules.now c.in-Some-Ok.rule c.take_rule.new.rules × (many c.args.rules.now + 1 ≤ 10000)) _ c.take_rule.result
    (λ t. reading-rule c.args.signals.now text c.args.rules.now c.take_rule.new.rules c.args.line rest c.args.first.now behind c.in-Some-Ok.rule r lines says t.1 t.0) c.take_rule.ensures.taken

pub returns-in-Some-Ok-clause-few : goal.returns-in-Some-Ok-clause-few
returns-in-Some-Ok-clause-few c = on_taken (IsTaken c.args.rules.now c.in-Some-Ok.rule c.take_rule.new.rules × (many c.args.rules.now + 1 ≤ 10000)) _ c.take_rule.result (λ t. few_more c.args.rules.now c.take_rule.new.rules c.in-Some-Ok.rule t.0 t.1) c.take_rule.ensures.taken

pub returns-in-Some-Ok-clause-fault : goal.returns-in-Some-Ok-clause-fault
returns-in-Some-Ok-clause-fault c = λ text rest behind r lines.
    let says : said c.args.signals.now c.args.line c.args.first.now ≡ Some (Ok (any_of c.in-Some-Ok.rule)) = sym (rw c.in-Some-Ok.field-0-is at c.in-Some-Ok.ensures.value) in
    let here = rw c.in-Some-Ok.field-0-is at c.in-Some-Ok.ensures.line in
    if_refused (λ (e : RuleError). IsRefused e c.args.line c.args.rules.now) (λ (e : RuleError). IsFaultOf e (rules_in c.args.signals.now text)) c.take_rule.result
    (λ e refused. reading-refused c.args.signals.now text c.args.rules.now c.args.line rest c.args.first.now behind (any_of c.in-Some-Ok.rule) e r lines says here c.requires refused) c.take_rule.ensures.fault
