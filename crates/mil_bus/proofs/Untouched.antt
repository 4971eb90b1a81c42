-- A run that no fault touches.
use Rattle.std.proofs.Common.{◌≡◌, ℕ, suc, ◌==◌, true, List, [], ◌∷◌, map, take, length, refl, ap, ◌∙◌, arith, append-nil}
use Rattle.std.proofs.lemmas.Bool.Decides.{nat_tests}
use Rattle.std.proofs.lemmas.List.{take-map}
use Rattle.mil_line.specs.declared.faults.Fault.{Fault}
use Rattle.mil_line.specs.Faults.{at_once, altered_from}
use Rattle.mil_bus.specs.declared.talks.Source.{Source}
use Rattle.mil_bus.specs.Exchange.{Offer, words_of_run, contiguous_run, run_sent}
use Rattle.mil_bus.specs.RunWords.{later_words}

whole : (run index : ℕ) (waves : List ℕ) → altered_from [] run index waves ≡ map at_once waves
whole run index [] = refl
whole run index (wave ∷ waves) = ap (λ ws. at_once wave ∷ ws) (whole run (suc index) waves)

later : (run : ℕ) (source : Source) (waves : List ℕ) → later_words run source (map at_once waves) ≡ contiguous_run run source 20 waves
later run source [] = refl
later run source (wave ∷ waves) = ap (λ ws. record { wave = wave; gap = 20; run = run; source = source } ∷ ws) (later run source waves)

-- words that follow one another at once, by their waves
once : (run : ℕ) (source : Source) (gap : ℕ) (waves : List ℕ) → words_of_run run source gap (map at_once waves) ≡ contiguous_run run source gap waves
once run source gap [] = refl
once run source gap (wave ∷ waves) = ap (λ ws. record { wave = wave; gap = gap; run = run; source = source } ∷ ws) (later run source waves)

pub run_sent-untouched : (room : ℕ) (faults : List Fault) (run : ℕ) (o : Offer) → (length faults == 0) ≡ true → run_sent room faults run o ≡ contiguous_run run o.source o.gap (take room o.waves)
unfolding run_sent
run_sent-untouched room [] run o none =
    ap (λ ws. words_of_run run o.source o.gap (take room ws)) (append-nil (altered_from [] run 0 o.waves) ∙ whole run 0 o.waves)
    ∙ ap (words_of_run run o.source o.gap) (take-map at_once room o.waves) ∙ once run o.source o.gap (take room o.waves)
run_sent-untouched room (f ∷ faults) run o none = absurd (grind (arith, nat_tests))
