-- Lines of verdicts, one after the other.
use Rattle.std.proofs.Common.{◌≡◌, ℕ, suc, ◌+◌, List, [], ◌∷◌, ◌++◌, length, take, cond, refl, ap, sym, ◌∙◌, subst, arith, append_assoc, append-nil, add-one}
use Rattle.std.specs.Prelude.{Bool, true, false, Option, Some, slice_get}
use Rattle.std.specs.Io.KnownBytes.{Appends}
use Rattle.std.specs.List.{flat_map}
use Rattle.std.proofs.lemmas.Grind.{flat_map-append}
use Rattle.ch11_reader.specs.declared.skip.Skip.{Skip}
use Rattle.ch11_layout.specs.Stamps.{Recorded, time_of}
use Rattle.bench_dump.proofs.Steps.{appends_both, appends_nothing}
use Rattle.judge_rules.specs.declared.rules.Rule.{Rule}
use Rattle.bench_judge.specs.declared.verdicts.Miss.{Miss}
use Rattle.bench_judge.specs.declared.verdicts.RuleVerdict.{RuleVerdict}
use Rattle.bench_judge.specs.Selection.{Origins, selects}
use Rattle.bench_judge.specs.Checks.{meets}
use Rattle.bench_select.specs.Viewed.{Viewed}
use Rattle.bench_judge.specs.Verdicts.{latest, misses, miss_of, AreVerdicts, Passed, not_held, rules_not_held, holds}
use Rattle.bench_judge.specs.Lines.{miss_line, verdict_lines, rules_lines, last_line, verdict_text}
use Rattle.bench_judge.specs.Tallies.{IsWriting, miss_at, missed_by, misses_next}
use Rattle.bench_judge.proofs.Moments.{moment, misses-skip, misses-met, misses-more}
use Rattle.bench_judge.proofs.Tallying.{next-skip, next-met, next-missed}
use Rattle.bench_judge.proofs.Whole.{take_more}

-- the next message does not miss the rule, or it does
pub misses-stay : (rule : Rule) (origins : Origins) (h : Viewed) (history : List Viewed) → false ≡ misses_next rule origins history h → misses rule origins (h ∷ history) ≡ misses rule origins history
misses-stay rule origins h history stays = go (selects rule origins h.0 h.1) refl (meets rule.check (latest rule origins h.0 history) h.1) refl
  where
    go : (s : Bool) → selects rule origins h.0 h.1 ≡ s → (m : Bool) → meets rule.check (latest rule origins h.0 history) h.1 ≡ m → misses rule origins (h ∷ history) ≡ misses rule origins history
    go false is m met = misses-skip rule origins h history is
    go true is true met = misses-met rule origins h history is met
    go true is false met = let bad : false ≡ true = stays ∙ sym (next-missed rule origins h history is met) in absurd cc

pub misses-grow : (rule : Rule) (origins : Origins) (h : Viewed) (history : List Viewed) → true ≡ misses_next rule origins history h → misses rule origins (h ∷ history) ≡ misses rule origins history ++ miss_of (moment h history) ∷ []
misses-grow rule origins h history grows = go (selects rule origins h.0 h.1) refl (meets rule.check (latest rule origins h.0 history) h.1) refl
  where
    go : (s : Bool) → selects rule origins h.0 h.1 ≡ s → (m : Bool) → meets rule.check (latest rule origins h.0 history) h.1 ≡ m → misses rule origins (h ∷ history) ≡ misses rule origins history ++ miss_of (moment h history) ∷ []
    go false is m met = let bad : true ≡ false = grows ∙ sym (next-skip rule origins h history is) in absurd cc
    go true is true met = let bad : true ≡ false = grows ∙ sym (next-met rule origins h history is met) in absurd cc
    go true is false met = misses-more rule origins h history is met

-- the messages that miss a rule, one after the other
pub missed-rule : (rule : Rule) (origins : Origins) (history : List Viewed) → missed_by (misses_next rule origins) history ≡ misses rule origins history
missed-rule rule origins [] = refl
missed-rule rule origins (h ∷ history) = go (misses_next rule origins history h) refl (missed-rule rule origins history)
  where
    go : (b : Bool) → misses_next rule origins history h ≡ b → missed_by (misses_next rule origins) history ≡ misses rule origins history
        → cond b (missed_by (misses_next rule origins) history ++ miss_at (length history + 1) h ∷ []) (missed_by (misses_next rule origins) history) ≡ misses rule origins (h ∷ history)
    go true is same = ap (λ (xs : List Miss). xs ++ miss_at (length history + 1) h ∷ []) same ∙ sym (misses-grow rule origins h history (sym is))
    go false is same = same ∙ sym (misses-stay rule origins h history (sym is))

-- the lines of those that were passed so far
pub writing-none : {T : Type 0} (is_tally : List Viewed → T → Type 0) (next : List Viewed → Viewed → Bool) (line : ℕ) (got : Option (List ℕ)) (tally : T) → is_tally [] tally → IsWriting is_tally next line got [] got tally
writing-none is_tally next line got tally is = record { tallied = is; written = appends_nothing got }

pub writing-skip : {T : Type 0} (is_tally : List Viewed → T → Type 0) (next : List Viewed → Viewed → Bool) (line : ℕ) (got gets : Option (List ℕ)) (h : Viewed) (history : List Viewed) (tally after : T) → IsWriting is_tally next line got history gets tally → false ≡ next history h
    → is_tally (h ∷ history) after → IsWriting is_tally next line got (h ∷ history) gets after
writing-skip is_tally next line got gets h history tally after w stays is = record {
  tallied = is;
  written = subst (λ (b : Bool). Appends got gets (flat_map (miss_line line) (cond b (missed_by next history ++ miss_at (length history + 1) h ∷ []) (missed_by next history)))) stays w.written;
}

pub writing-more : {T : Type 0} (is_tally : List Viewed → T → Type 0) (next : List Viewed → Viewed → Bool) (line : ℕ) (got mid gets : Option (List ℕ)) (h : Viewed) (history : List Viewed) (tally after : T) (miss : Miss) → IsWriting is_tally next line got history mid tally
    → true ≡ next history h → is_tally (h ∷ history) after → miss ≡ miss_at (length history + 1) h → Appends mid gets (miss_line line miss) → IsWriting is_tally next line got (h ∷ history) gets after
writing-more is_tally next line got mid gets h history tally after miss w grows is told put = record {
  tallied = is;
  written = subst (λ (b : Bool). Appends got gets (flat_map (miss_line line) (cond b (missed_by next history ++ miss_at (length history + 1) h ∷ []) (missed_by next history)))) grows
      (subst (Appends got gets) (sym same) (appends_both got mid gets (flat_map (miss_line line) (missed_by next history)) (miss_line line miss) w.written put));
}
  where
    same : flat_map (miss_line line) (missed_by next history ++ miss_at (length history + 1) h ∷ []) ≡ flat_map (miss_line line) (missed_by next history) ++ miss_line line miss
    same =
        flat_map-append (miss_line line) (missed_by next history) (miss_at (length history + 1) h ∷ [])
        ∙ ap (λ (l : List ℕ). flat_map (miss_line line) (missed_by next history) ++ l) (append-nil (miss_line line (miss_at (length history + 1) h)))
        ∙ ap (λ (x : Miss). flat_map (miss_line line) (missed_by next history) ++ miss_line line x) (sym told)

pub told : (number channel : ℕ) (m : Recorded) (history : List Viewed) → number ≡ length history + 1
    → (let miss : Miss = record { number = number; channel = channel; stamp = time_of m } in miss) ≡ miss_of (moment (channel, m) history)
told number channel m history is = rw is refl

-- one rule more
lines-append : (skips : List Skip) (xs ys : List Rule) (p : Passed) → rules_lines skips (xs ++ ys) p ≡ rules_lines skips xs p ++ rules_lines skips ys p
lines-append skips [] ys p = refl
lines-append skips (x ∷ xs) ys p =
    ap (λ (l : List ℕ). verdict_lines skips x p ++ l) (lines-append skips xs ys p) ∙ sym (append_assoc (verdict_lines skips x p) (rules_lines skips xs p) (rules_lines skips ys p))

lines-more : (skips : List Skip) (rules : List Rule) (place : ℕ) (rule : Rule) (p : Passed) → slice_get rules place ≡ Some rule → rules_lines skips (take (place + 1) rules) p ≡ rules_lines skips (take place rules) p ++ verdict_lines skips rule p
lines-more skips rules place rule p there =
    ap (λ (rs : List Rule). rules_lines skips rs p) (rw add-one (take_more rules place rule there))
    ∙ lines-append skips (take place rules) (rule ∷ []) p
    ∙ ap (λ (l : List ℕ). rules_lines skips (take place rules) p ++ l) (append-nil (verdict_lines skips rule p))

pub rules-more : (skips : List Skip) (rules : List Rule) (place : ℕ) (rule : Rule) (p : Passed) (got mid gets : Option (List ℕ)) → slice_get rules place ≡ Some rule → Appends got mid (rules_lines skips (take place rules) p)
    → Appends mid gets (verdict_lines skips rule p) → Appends got gets (rules_lines skips (take (place + 1) rules) p)
rules-more skips rules place rule p got mid gets there before line =
    subst (Appends got gets) (sym (lines-more skips rules place rule p there)) (appends_both got mid gets (rules_lines skips (take place rules) p) (verdict_lines skips rule p) before line)

-- as many verdicts are not held as rules
pub same-held : (rules : List Rule) (p : Passed) (verdicts : List RuleVerdict) → AreVerdicts rules p verdicts → not_held verdicts ≡ rules_not_held rules p
same-held [] p [] are = refl
same-held [] p (v ∷ vs) are = absurd (omega (arith, are.many))
same-held (r ∷ rs) p [] are = absurd (omega (arith, are.many))
same-held (r ∷ rs) p (v ∷ vs) are =
    let first : v.held ≡ holds r p = (are.each 0 r v refl refl).holds in
    let rest = same-held rs p vs (record { many = omega (arith, are.many); each = λ k rule verdict asked has. are.each (suc k) rule verdict asked has }) in
    rw (first, rest) refl

pub whole-text : (skips : List Skip) (rules : List Rule) (p : Passed) (verdicts : List RuleVerdict) → AreVerdicts rules p verdicts → rules_lines skips rules p ++ last_line (length verdicts) (not_held verdicts) ≡ verdict_text skips rules p
whole-text skips rules p verdicts are = rw (are.many, same-held rules p verdicts are) refl
