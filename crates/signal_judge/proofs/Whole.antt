-- Verdicts of tallies.
use Rattle.std.proofs.Common.{◌≡◌, ℕ, zero, suc, ◌+◌, ◌<◌, List, [], ◌∷◌, ◌++◌, length, refl, ap, sym, ◌∙◌, subst, arith, length-append}
use Rattle.std.specs.Prelude.{Some, slice_get}
use Rattle.std.proofs.lemmas.Option.{slice_get_within}
use Rattle.bench_judge.specs.Selection.{Origins}
use Rattle.bench_select.specs.Viewed.{Viewed}
use Rattle.bench_judge.specs.Verdicts.{IsVerdictWith}
use Rattle.bench_judge.specs.declared.verdicts.RuleVerdict.{RuleVerdict}
use Rattle.signal_judge.specs.declared.rules.SignalRule.{SignalRule}
use Rattle.signal_judge.specs.declared.tallies.SignalTally.{SignalTally}
use Rattle.bench_judge.specs.Tallies.{AreTallies}
use Rattle.signal_judge.specs.Tallies.{IsTally}
use Rattle.signal_judge.specs.Verdicts.{AreVerdicts}
use Rattle.signal_judge.proofs.Tallying.{verdict_is}

-- an element of a list with one more: one of the list, or the last
pub data Place (X : Type 0) (xs : List X) (x : X) (k : ℕ) (y : X) : Type 0 where
  Earlier : k < length xs → slice_get xs k ≡ Some y → Place X xs x k y
  Last : k ≡ length xs → x ≡ y → Place X xs x k y

later : {X : Type 0} (x : X) (xs : List X) (last : X) (k : ℕ) (y : X) → Place X xs last k y → Place X (x ∷ xs) last (suc k) y
later x xs last k y (Earlier within there) = Earlier (omega (arith, within)) there
later x xs last k y (Last at is) = Last (ap suc at) is

pub place_of : {X : Type 0} (xs : List X) (x : X) (k : ℕ) (y : X) → slice_get (xs ++ x ∷ []) k ≡ Some y → Place X xs x k y
place_of [] x zero y is = Last refl cc
place_of [] x (suc k) y is = absurd cc
place_of (z ∷ zs) x zero y is = Earlier (omega arith) is
place_of (z ∷ zs) x (suc k) y is = later z zs x k y (place_of zs x k y is)

-- the first tallies have their verdicts
pub record AreJudged (rules : List SignalRule) (tallies : List SignalTally) (verdicts : List RuleVerdict) (i : ℕ) : Type 0 where
  pub many : length verdicts ≡ i
  pub each : (k : ℕ) (r : SignalRule) (t : SignalTally) (v : RuleVerdict) → k < i → slice_get rules k ≡ Some r → slice_get tallies k ≡ Some t → slice_get verdicts k ≡ Some v → IsVerdictWith r.rule t.plain.selected t.plain.counted t.plain.missed v

pub judged_none : (rules : List SignalRule) (tallies : List SignalTally) → AreJudged rules tallies [] 0
judged_none rules tallies = record { many = refl; each = λ k r t v below asked got has. absurd (omega arith) }

some_same : {X : Type 0} (x y : X) → Some x ≡ Some y → x ≡ y
some_same x y is = cc

pub judged_more : (rules : List SignalRule) (tallies : List SignalTally) (verdicts : List RuleVerdict) (i : ℕ) (rule : SignalRule) (tally : SignalTally) (verdict : RuleVerdict) → AreJudged rules tallies verdicts i → slice_get rules i ≡ Some rule → slice_get tallies i ≡ Some tally
    → IsVerdictWith rule.rule tally.plain.selected tally.plain.counted tally.plain.missed verdict → AreJudged rules tallies (verdicts ++ verdict ∷ []) (i + 1)
judged_more rules tallies verdicts i rule tally verdict j there found one = record {
  many = omega (arith, length-append verdicts (verdict ∷ []), j.many);
  each = λ k r t v below asked got has. go k r t v asked got (place_of verdicts verdict k v has);
}
  where
    go : (k : ℕ) (r : SignalRule) (t : SignalTally) (v : RuleVerdict) → slice_get rules k ≡ Some r → slice_get tallies k ≡ Some t → Place RuleVerdict verdicts verdict k v → IsVerdictWith r.rule t.plain.selected t.plain.counted t.plain.missed v
    go k r t v asked got (Earlier a has) = j.each k r t v (omega (arith, a, j.many)) asked got has
    go k r t v asked got (Last at is) =
        let here : k ≡ i = at ∙ j.many in
        let same_rule : rule ≡ r = some_same rule r (sym there ∙ ap (slice_get rules) (sym here) ∙ asked) in
        let same_tally : tally ≡ t = some_same tally t (sym found ∙ ap (slice_get tallies) (sym here) ∙ got) in
        subst (λ (x : SignalRule). IsVerdictWith x.rule t.plain.selected t.plain.counted t.plain.missed v) same_rule
        (subst (λ (x : SignalTally). IsVerdictWith rule.rule x.plain.selected x.plain.counted x.plain.missed v) same_tally (subst (λ (x : RuleVerdict). IsVerdictWith rule.rule tally.plain.selected tally.plain.counted tally.plain.missed x) is one))

-- each tally is there
found_at : {X : Type 0} (xs : List X) (k : ℕ) → k < length xs → (x : X) × (slice_get xs k ≡ Some x)
found_at [] k below = absurd (omega arith)
found_at (x ∷ xs) zero below = (x, refl)
found_at (x ∷ xs) (suc k) below = found_at xs k (omega arith)

pub judged_all : (rules : List SignalRule) (origins : Origins) (tallies : List SignalTally) (verdicts : List RuleVerdict) (i : ℕ) (history : List Viewed) → AreJudged rules tallies verdicts i → i ≡ length rules → AreTallies IsTally rules origins history tallies → AreVerdicts rules origins history verdicts
judged_all rules origins tallies verdicts i history j whole are = record {
  many = j.many ∙ whole;
  each = λ k r verdict asked has.
      let within : k < length rules = slice_get_within rules k r asked in
      let tally = found_at tallies k (omega (arith, within, are.many)) in
      verdict_is r origins history tally.0 verdict (are.each k r tally.0 asked tally.1) (j.each k r tally.0 verdict (omega (arith, within, whole)) asked tally.1 has);
}
