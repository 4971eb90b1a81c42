use Rattle.std.proofs.Common.{◌≡◌, ◌+◌, length, map, refl, sym, append-nil, arith}
use Rattle.std.proofs.lemmas.Bool.{ne_eqb}
use Rattle.std.proofs.lemmas.Bool.Decides.{nat_tests}
use Rattle.std.specs.Prelude.{Some, Ok, Err}
use Rattle.judge_rules.specs.Lines.{said}
use Rattle.text_lines.specs.Lines.{text_lines}
use Rattle.judge_rules.specs.Parts.{parts_of}
use Rattle.judge_rules.specs.Rules.{rules_from, rules_in}
use Rattle.judge_rules.proofs.Prefixes.{from-fault, from-many, from-rule, fits-whole}
use Rattle.judge_rules.proofs.Ranges.{all_in_range}
use Rattle.judge_rules.proofs.reading.read_rules.Goals as goal

pub returns-in-Some-Err-clause-fault : goal.returns-in-Some-Err-clause-fault
unfolding rules_in
returns-in-Some-Err-clause-fault c =
    let l = c.loop-first in
    let says : said l.line c.in-Some.first.now ≡ Some (Err c.in-Some-Err.fault) = sym (rw c.in-Some-Err.field-0-is at c.in-Some-Err.ensures.value) in
    rw (l.invariant.read, c.in-Some.ensures.lines, from-fault (length l.rules.items) l.line c.in-Some.first.now (text_lines c.in-Some.behind.now) c.in-Some-Err.fault says) refl

pub returns-then-count-eq-MOST_RULES-clause-fault : goal.returns-then-count-eq-MOST_RULES-clause-fault
unfolding rules_in
returns-then-count-eq-MOST_RULES-clause-fault c =
    let l = c.loop-first in
    let says : said l.line c.in-Some.first.now ≡ Some (Ok (parts_of c.in-Some-Ok.rule)) = sym (rw c.in-Some-Ok.field-0-is at c.in-Some-Ok.ensures.value) in
    let many : length l.rules.items ≡ 10000 = omega arith in
    rw (l.invariant.read, c.in-Some.ensures.lines, from-many (length l.rules.items) l.line c.in-Some.first.now (text_lines c.in-Some.behind.now) (parts_of c.in-Some-Ok.rule) says many) refl

pub returns-then-is_err-clause-fault : goal.returns-then-is_err-clause-fault
unfolding rules_in
returns-then-is_err-clause-fault c =
    let l = c.loop-first in
    let says : said l.line c.in-Some.first.now ≡ Some (Ok (parts_of c.in-Some-Ok.rule)) = sym (rw c.in-Some-Ok.field-0-is at c.in-Some-Ok.ensures.value) in
    let few : length l.rules.items ≡ 10000 → ⊥ = λ (e : length l.rules.items ≡ 10000). absurd (omega arith) in
    let same : c.len-count.result ≡ length l.rules.items = omega arith in
    let here : c.in-Some-Ok.rule.line ≡ l.line = rw c.in-Some-Ok.field-0-is at c.in-Some-Ok.ensures.line in
    rw (l.invariant.read, c.in-Some.ensures.lines, from-rule (length l.rules.items) l.line c.in-Some.first.now (text_lines c.in-Some.behind.now) (parts_of c.in-Some-Ok.rule) says few)
    (fits-whole l.line c.fault_or_memory.result (map parts_of l.rules.items) (parts_of c.in-Some-Ok.rule) (rules_from (length l.rules.items + 1) (l.line + 1) (text_lines c.in-Some.behind.now)) here (rw same at c.fault_or_memory.ensures))

pub returns-then-is_empty-clause-fault : goal.returns-then-is_empty-clause-fault
unfolding rules_in
returns-then-is_empty-clause-fault c =
    let l = c.loop-first in
    let none : length l.rules.items ≡ 0 = grind (arith, nat_tests) in
    rw (l.invariant.read, c.in_default.ensures.lines, none) refl

pub returns-clause-rules : goal.returns-clause-rules
unfolding rules_in
returns-clause-rules c =
    let l = c.loop-first in
    let some : length l.rules.items ≡ 0 → ⊥ = λ (e : length l.rules.items ≡ 0). absurd (grind (arith, nat_tests)) in
    rw (l.invariant.read, c.in_default.ensures.lines, ne_eqb (length l.rules.items) 0 some, append-nil (map parts_of l.rules.items)) refl

pub returns-clause-ranges : goal.returns-clause-ranges
returns-clause-ranges c = all_in_range c.loop-first.rules.items
