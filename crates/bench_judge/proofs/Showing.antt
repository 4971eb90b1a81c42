-- Rules that are shown, one after the other.
use Rattle.std.proofs.Common.{◌≡◌, List, [], ◌∷◌, ◌++◌, length, refl, sym, ◌∙◌, subst, arith, append_assoc, append-nil}
use Rattle.std.specs.Prelude.{ℕ, Option}
use Rattle.std.specs.Io.KnownBytes.{Appends}
use Rattle.bench_dump.proofs.Steps.{appends_both, appends_nothing}
use Rattle.text_lines.specs.Words.{Text}
use Rattle.judge_rules.specs.declared.rules.Check.{Check}
use Rattle.judge_rules.specs.declared.rules.Rule.{Rule}
use Rattle.bench_judge.specs.declared.verdicts.RuleVerdict.{RuleVerdict}
use Rattle.bench_judge.specs.Names.{rule_text}
use Rattle.bench_judge.specs.Colored.{AppendsSome, AreShown, IsColored, IsRuleShown, NoneShown, OneShown, last_shown, more_shown, rule_shown}

-- the rules in front of those that are left are shown
pub record IsShowing (text : Text) (all_rules : List Rule) (all : List RuleVerdict) (rules : List Rule) (left : List RuleVerdict) (got gets : Option (List ℕ)) : Type 0 where
  pub front : List ℕ
  pub onward : (rest : List ℕ) → AreShown text rules left rest → AreShown text all_rules all (front ++ rest)
  pub written : Appends got gets front

pub showing-none : (text : Text) (rules : List Rule) (all : List RuleVerdict) (got : Option (List ℕ)) → IsShowing text rules all rules all got got
showing-none text rules all got = record { front = []; onward = λ rest is. is; written = appends_nothing got }

pub showing-more : (text : Text) (all_rules : List Rule) (all : List RuleVerdict) (rules more : List Rule) (left others : List RuleVerdict) (rule : Rule) (v : RuleVerdict) (got mid gets : Option (List ℕ)) → IsShowing text all_rules all rules left got mid
    → rules ≡ rule ∷ more → left ≡ v ∷ others → AppendsSome (IsRuleShown (rule_text text v.line) rule.check v) mid gets → IsShowing text all_rules all more others got gets
showing-more text all_rules all rules more left others rule v got mid gets s first is one = record {
  front = s.front ++ one.0;
  onward = λ rest shown.
      subst (AreShown text all_rules all) (sym (append_assoc s.front one.0 rest)) (s.onward (one.0 ++ rest) (rw (first, is) (OneShown rule more v others one.0 rest one.1.0 shown)));
  written = appends_both got mid gets s.front one.0 s.written one.1.1;
}

none_left : {X : Type 0} (left : List X) → length left ≡ 0 → left ≡ []
none_left [] none = refl
none_left (v ∷ left) none = absurd (omega (arith, none))

pub showing-all : (text : Text) (all_rules : List Rule) (all : List RuleVerdict) (rules : List Rule) (left : List RuleVerdict) (got gets : Option (List ℕ)) → IsShowing text all_rules all rules left got gets → length rules ≡ length left → length left ≡ 0
    → AppendsSome (AreShown text all_rules all) got gets
showing-all text all_rules all rules left got gets s many none =
    (s.front, (subst (AreShown text all_rules all) (append-nil s.front) (s.onward [] (rw (none_left rules (many ∙ none), none_left left none) NoneShown)), s.written))

-- a rule was written, the messages that miss it behind it, and how many more these are
pub rule_written : (name : Text) (check : Check) (v : RuleVerdict) (got mid then gets : Option (List ℕ)) (put shown : List ℕ) → put ≡ rule_shown name check v → (v.missed ≡ 0 → shown ≡ []) → Appends got mid put → Appends mid then shown → Appends then gets (more_shown v.missed)
    → AppendsSome (IsRuleShown name check v) got gets
rule_written name check v got mid then gets put shown is none first second third = (
  rule_shown name check v ++ (shown ++ more_shown v.missed),
  (
    record { messages = shown; none = none; split = refl },
    appends_both got mid gets (rule_shown name check v) (shown ++ more_shown v.missed) (subst (Appends got mid) is first) (appends_both mid then gets shown (more_shown v.missed) second third),
  ),
)

-- all rules were written, and the last line behind them
pub all_written : (text : Text) (rules : List Rule) (verdicts : List RuleVerdict) (got mid gets : Option (List ℕ)) (put : List ℕ) → AppendsSome (AreShown text rules verdicts) got mid → put ≡ last_shown verdicts → Appends mid gets put
    → AppendsSome (IsColored text rules verdicts) got gets
all_written text rules verdicts got mid gets put shown is last = (
  shown.0 ++ last_shown verdicts,
  (
    record { lines = shown.0; each = shown.1.0; split = refl },
    appends_both got mid gets shown.0 (last_shown verdicts) shown.1.1 (subst (Appends mid gets) is last),
  ),
)
