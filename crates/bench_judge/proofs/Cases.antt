-- Test cases, one after the other, and the bytes of their names.
use Rattle.std.proofs.Common.{◌≡◌, ℕ, zero, suc, ◌-◌, ◌<◌, List, [], ◌∷◌, ◌++◌, ap, sym, ◌∙◌, arith, append_assoc, append-nil}
use Rattle.ch11_reader.specs.declared.skip.Skip.{Skip}
use Rattle.text_lines.specs.Words.{Text}
use Rattle.judge_rules.specs.declared.rules.Rule.{Rule}
use Rattle.bench_judge.specs.declared.verdicts.RuleVerdict.{RuleVerdict}
use Rattle.bench_judge.specs.Characters.{character_len}
use Rattle.bench_judge.specs.Names.{rule_text}
use Rattle.bench_judge.specs.Junit.{case_end, case_head, case_text, cases, escaped_behind, first_shown, told_lines}
use Rattle.bench_judge.specs.Verdicts.{Passed}

-- one more test case is put
pub case_more : (file text : Text) (skips : List Skip) (rules more : List Rule) (rule : Rule) (verdicts others : List RuleVerdict) (v : RuleVerdict) (p : Passed) (name : Text) (old new whole : List ℕ) → rules ≡ rule ∷ more → verdicts ≡ v ∷ others → name ≡ rule_text text v.line
    → new ≡ old ++ (case_head v name ++ case_end file name rule.check v (told_lines skips rule v p)) → old ++ cases file text skips rules verdicts p ≡ whole → new ++ cases file text skips more others p ≡ whole
case_more file text skips rules more rule verdicts others v p name old new whole first next named put before =
    ap (λ (l : List ℕ). l ++ cases file text skips more others p) (put ∙ ap (λ (n : Text). old ++ (case_head v n ++ case_end file n rule.check v (told_lines skips rule v p))) named)
    ∙ append_assoc old (case_text file text skips rule v p) (cases file text skips more others p)
    ∙ (rw (first, next) at before)

-- no rule is left, or no verdict
pub no_rule : (file text : Text) (skips : List Skip) (rules : List Rule) (verdicts : List RuleVerdict) (p : Passed) (now whole : List ℕ) → rules ≡ [] → now ++ cases file text skips rules verdicts p ≡ whole → now ≡ whole
no_rule file text skips rules verdicts p now whole none is = sym (append-nil now) ∙ (rw none at is)

pub no_verdict : (file text : Text) (skips : List Skip) (rules more : List Rule) (rule : Rule) (verdicts : List RuleVerdict) (p : Passed) (now whole : List ℕ) → rules ≡ rule ∷ more → verdicts ≡ [] → now ++ cases file text skips rules verdicts p ≡ whole → now ≡ whole
no_verdict file text skips rules more rule verdicts p now whole first none is = sym (append-nil now) ∙ (rw (first, none) at is)

-- one more byte of a character is put, or the first of one
pub inside_more : (inside byte : ℕ) (bytes others old new : List ℕ) → 0 < inside → bytes ≡ byte ∷ others → new ≡ old ++ byte ∷ [] → new ++ escaped_behind (inside - 1) others ≡ old ++ escaped_behind inside bytes
inside_more zero byte bytes others old new some is put = absurd (omega (arith, some))
inside_more (suc n) byte bytes others old new some is put =
    let before : suc n - 1 ≡ n = omega arith in
    rw (before, is) (ap (λ (l : List ℕ). l ++ escaped_behind n others) put ∙ append_assoc old (byte ∷ []) (escaped_behind n others))

pub first_more : (inside byte len : ℕ) (bytes others old new : List ℕ) → inside ≡ 0 → bytes ≡ byte ∷ others → len ≡ character_len bytes → new ≡ old ++ first_shown len byte → new ++ escaped_behind (len - 1) others ≡ old ++ escaped_behind inside bytes
first_more inside byte len bytes others old new none is long put = rw (none, long, is) (go (rw (long, is) at put))
  where
    here : ℕ
    here = character_len (byte ∷ others)

    go : new ≡ old ++ first_shown here byte → new ++ escaped_behind (here - 1) others ≡ old ++ (first_shown here byte ++ escaped_behind (here - 1) others)
    go one = ap (λ (l : List ℕ). l ++ escaped_behind (here - 1) others) one ∙ append_assoc old (first_shown here byte) (escaped_behind (here - 1) others)
