-- Messages that miss a rule about a signal, one after the other.
use Rattle.std.proofs.Common.{◌≡◌, ◌+◌, List, [], ◌∷◌, ◌++◌, length, cond, refl, ap, sym, ◌∙◌}
use Rattle.std.specs.Prelude.{Bool, true, false}
use Rattle.bench_judge.specs.Selection.{Origins}
use Rattle.bench_select.specs.Viewed.{Viewed}
use Rattle.bench_judge.specs.declared.verdicts.Miss.{Miss}
use Rattle.bench_judge.specs.Tallies.{miss_at, missed_by}
use Rattle.bench_judge.specs.Verdicts.{miss_of}
use Rattle.signal_judge.specs.declared.rules.SignalRule.{SignalRule}
use Rattle.signal_judge.specs.Verdicts.{selects, meets, misses}
use Rattle.signal_judge.specs.Tallies.{misses_next}
use Rattle.signal_judge.proofs.Counting.{moment, misses-skip, misses-met, misses-more}
use Rattle.signal_judge.proofs.Tallying.{next-skip, next-met, next-missed}

-- the next message does not miss the r, or it does
pub misses-stay : (r : SignalRule) (origins : Origins) (h : Viewed) (history : List Viewed) → false ≡ misses_next r origins history h → misses r origins (h ∷ history) ≡ misses r origins history
misses-stay r origins h history stays = go (selects r origins h.0 h.1) refl (meets r origins history h.0 h.1) refl
  where
    go : (s : Bool) → selects r origins h.0 h.1 ≡ s → (m : Bool) → meets r origins history h.0 h.1 ≡ m → misses r origins (h ∷ history) ≡ misses r origins history
    go false is m met = misses-skip r origins h history is
    go true is true met = misses-met r origins h history is met
    go true is false met = let bad : false ≡ true = stays ∙ sym (next-missed r origins h history is met) in absurd cc

pub misses-grow : (r : SignalRule) (origins : Origins) (h : Viewed) (history : List Viewed) → true ≡ misses_next r origins history h → misses r origins (h ∷ history) ≡ misses r origins history ++ miss_of (moment h history) ∷ []
misses-grow r origins h history grows = go (selects r origins h.0 h.1) refl (meets r origins history h.0 h.1) refl
  where
    go : (s : Bool) → selects r origins h.0 h.1 ≡ s → (m : Bool) → meets r origins history h.0 h.1 ≡ m → misses r origins (h ∷ history) ≡ misses r origins history ++ miss_of (moment h history) ∷ []
    go false is m met = let bad : true ≡ false = grows ∙ sym (next-skip r origins h history is) in absurd cc
    go true is true met = let bad : true ≡ false = grows ∙ sym (next-met r origins h history is met) in absurd cc
    go true is false met = misses-more r origins h history is met

-- the messages that miss a rule, one after the other
pub missed-rule : (r : SignalRule) (origins : Origins) (history : List Viewed) → missed_by (misses_next r origins) history ≡ misses r origins history
missed-rule r origins [] = refl
missed-rule r origins (h ∷ history) = go (misses_next r origins history h) refl (missed-rule r origins history)
  where
    go : (b : Bool) → misses_next r origins history h ≡ b → missed_by (misses_next r origins) history ≡ misses r origins history
        → cond b (missed_by (misses_next r origins) history ++ miss_at (length history + 1) h ∷ []) (missed_by (misses_next r origins) history) ≡ misses r origins (h ∷ history)
    go true is same = ap (λ (xs : List Miss). xs ++ miss_at (length history + 1) h ∷ []) same ∙ sym (misses-grow r origins h history (sym is))
    go false is same = same ∙ sym (misses-stay r origins h history (sym is))
