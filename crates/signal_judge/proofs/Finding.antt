-- The first messages that miss a rule about a signal.
use Rattle.std.proofs.Common.{◌≡◌, ℕ, zero, suc, ◌≤◌, List, [], ◌∷◌, ◌++◌, length, take, refl, ap, sym, ◌∙◌, arith}
use Rattle.std.specs.Prelude.{true, false}
use Rattle.std.proofs.lemmas.List.{take_all}
use Rattle.bench_judge.specs.Selection.{Origins}
use Rattle.bench_select.specs.Viewed.{Viewed}
use Rattle.bench_judge.specs.declared.verdicts.Miss.{Miss}
use Rattle.bench_judge.specs.Verdicts.{miss_of}
use Rattle.signal_judge.specs.declared.rules.SignalRule.{SignalRule}
use Rattle.signal_judge.specs.declared.tallies.SignalTally.{SignalTally}
use Rattle.signal_judge.specs.Verdicts.{misses}
use Rattle.signal_judge.specs.Tallies.{IsTally, IsFinding, misses_next}
use Rattle.signal_judge.proofs.Counting.{moment}
use Rattle.signal_judge.proofs.Writing.{misses-stay, misses-grow}

-- what stands behind the first so many does not count
take-push : {X : Type 0} (n : ℕ) (xs : List X) (x : X) → take n (take n xs ++ x ∷ []) ≡ take n (xs ++ x ∷ [])
take-push zero xs x = refl
take-push (suc n) [] x = refl
take-push (suc n) (y ∷ ys) x = ap (λ l. y ∷ l) (take-push n ys x)

few : {X : Type 0} (n : ℕ) (xs : List X) → length (take n xs) ≤ n
few zero xs = omega arith
few (suc n) [] = omega arith
few (suc n) (y ∷ ys) = omega (arith, few n ys)

pub finding-none : (r : SignalRule) (origins : Origins) (most : ℕ) (tally : SignalTally) → IsTally r origins [] tally → IsFinding r origins most [] [] tally
finding-none r origins most tally is = record { tallied = is; first = sym (take_all most [] (omega arith)) }

pub finding-few : (r : SignalRule) (origins : Origins) (most : ℕ) (history : List Viewed) (found : List Miss) (tally : SignalTally) → IsFinding r origins most history found tally → length found ≤ most
finding-few r origins most history found tally f = omega (arith, ap length f.first, few most (misses r origins history))

pub finding-skip : (r : SignalRule) (origins : Origins) (most : ℕ) (h : Viewed) (history : List Viewed) (found : List Miss) (tally next : SignalTally) → IsFinding r origins most history found tally → false ≡ misses_next r origins history h
    → IsTally r origins (h ∷ history) next → IsFinding r origins most (h ∷ history) found next
finding-skip r origins most h history found tally next f stays is = record { tallied = is; first = f.first ∙ ap (take most) (sym (misses-stay r origins h history stays)) }

pub finding-more : (r : SignalRule) (origins : Origins) (most : ℕ) (h : Viewed) (history : List Viewed) (found gets : List Miss) (tally next : SignalTally) (miss : Miss) → IsFinding r origins most history found tally → true ≡ misses_next r origins history h
    → IsTally r origins (h ∷ history) next → miss ≡ miss_of (moment h history) → gets ≡ take most (found ++ miss ∷ []) → IsFinding r origins most (h ∷ history) gets next
finding-more r origins most h history found gets tally next miss f grows is told got = record {
  tallied = is;
  first =
      got
      ∙ ap (λ (xs : List Miss). take most (xs ++ miss ∷ [])) f.first
      ∙ take-push most (misses r origins history) miss
      ∙ ap (λ (x : Miss). take most (misses r origins history ++ x ∷ [])) told
      ∙ ap (take most) (sym (misses-grow r origins h history grows));
}
