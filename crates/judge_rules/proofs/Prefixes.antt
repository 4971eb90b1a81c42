-- Rules that were read, and what the rest of the text gives.
use Rattle.std.proofs.Common.{◌≡◌, ℕ, ◌+◌, List, [], ◌∷◌, ◌++◌, length, refl, ap, sym, ◌∙◌}
use Rattle.std.specs.Prelude.{Some, None, Ok, Err, slice_get}
use Rattle.std.proofs.lemmas.Bool.{eq-eqb, ne_eqb}
use Rattle.text_lines.specs.Words.{Text}
use Rattle.judge_rules.specs.declared.fault.RuleError.{RuleError}
use Rattle.judge_rules.specs.declared.fault.RuleFault.{RuleFault}
use Rattle.judge_rules.specs.declared.fault.RuleFault.TheVariants.{Range}
use Rattle.judge_rules.specs.Lines.{said}
use Rattle.judge_rules.specs.Parts.{Parts}
use Rattle.judge_rules.specs.Rules.{AllRules, in_front, rules_from, IsRuleError, FitsAt}

-- rules in front of those that the rest gives
abbrev pub prefixed : List Parts → AllRules → AllRules
prefixed rules (Ok more) = Ok (rules ++ more)
prefixed rules (Err e) = Err e

-- an answer that fits the rest fits the whole
pub fits-more : (line : ℕ) (e : RuleError) (rule : Parts) (rest : AllRules) → FitsAt line e rest → FitsAt line e (in_front rule rest)
fits-more line e rule (Ok more) fits = fits
fits-more line e rule (Err f) fits = fits

at-end : (rules : List Parts) (rule : Parts) (more : List Parts) → slice_get (rules ++ rule ∷ more) (length rules) ≡ Some rule
at-end [] rule more = refl
at-end (r ∷ rs) rule more = at-end rs rule more

pub fits-whole : (line : ℕ) (e : RuleError) (rules : List Parts) (rule : Parts) (rest : AllRules) → rule.line ≡ line → FitsAt line e rest → IsRuleError e (prefixed rules (in_front rule rest))
fits-whole line e rules rule (Ok more) here fits = (ap (λ (x : RuleError). x.fault) fits, (length rules, (rule, (at-end rules rule more, here ∙ sym (ap (λ (x : RuleError). x.line) fits)))))
fits-whole line e rules rule (Err f) here fits = fits

-- the first line that is left has a fault, is one rule too many, says nothing, or is a rule
pub from-fault : (before line : ℕ) (first : Text) (rest : List Text) (f : RuleFault) → said line first ≡ Some (Err f) → rules_from before line (first ∷ rest) ≡ Err (record { fault = f; line = line })
from-fault before line first rest f is = rw is refl

pub from-many : (before line : ℕ) (first : Text) (rest : List Text) (rule : Parts) → said line first ≡ Some (Ok rule) → before ≡ 10000 → rules_from before line (first ∷ rest) ≡ Err (record { fault = Range; line = line })
from-many before line first rest rule is many = rw (is, eq-eqb before 10000 many) refl

pub from-none : (before line : ℕ) (first : Text) (rest : List Text) → said line first ≡ None → rules_from before line (first ∷ rest) ≡ rules_from before (line + 1) rest
from-none before line first rest is = rw is refl

pub from-rule : (before line : ℕ) (first : Text) (rest : List Text) (rule : Parts) → said line first ≡ Some (Ok rule) → (before ≡ 10000 → ⊥) → rules_from before line (first ∷ rest) ≡ in_front rule (rules_from (before + 1) (line + 1) rest)
from-rule before line first rest rule is few = rw (is, ne_eqb before 10000 few) refl
