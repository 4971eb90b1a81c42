-- The placed actions of a report.
use Rattle.std.proofs.Common.{◌≡◌, ℕ, List, [], ◌++◌, sym, ap, ◌∙◌, subst, arith}
use Rattle.std.specs.Prelude.{◌==◌}
use Rattle.std.proofs.lemmas.List.Elements.{filter-append}
use Rattle.bc_machine.specs.declared.placed.Placed.{Placed}
use Rattle.bc_machine.specs.Hosting.{placed_at, placed_up_to}
use Rattle.bc_machine.proofs.Left.{up_to_nothing}
use Rattle.bench_settings.specs.Placing.{IsOrdered}
use Rattle.bench_settings.proofs.Ordered.{up_to_same}

pub nothing_up_to : (n : ℕ) → placed_up_to n [] ≡ []
nothing_up_to n = up_to_nothing n

none_placed : IsOrdered []
none_placed = record { places = λ k d low. absurd (omega (arith, low)); order = tt }

pub nothing_ordered : (ps : List Placed) → ps ≡ [] → IsOrdered ps
nothing_ordered ps none = subst IsOrdered (sym none) none_placed

-- lists that have the same at each number have the same up to one, with others behind them too
pub alike_up_to : (n : ℕ) (ps qs more : List Placed) → ((k : ℕ) → placed_at k ps ≡ placed_at k qs) → placed_up_to n (ps ++ more) ≡ placed_up_to n (qs ++ more)
alike_up_to n ps qs more same = up_to_same n (ps ++ more) (qs ++ more)
    (λ k low high.
    filter-append (λ (p : Placed). p.number == k) ps more ∙ ap (λ l. l ++ placed_at k more) (same k) ∙ sym (filter-append (λ (p : Placed). p.number == k) qs more))
