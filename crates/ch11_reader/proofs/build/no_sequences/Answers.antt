use Rattle.std.proofs.Common.{◌≡◌, ℕ, Option, None, Some, refl}
use Rattle.ch11_reader.proofs.build.no_sequences.Goals as goal

-- a place that no number fits is empty
only_none : (P : Option ℕ → Type 0) → ((x : ℕ) → P (Some x) → ⊥) → (y : Option ℕ) → P y → y ≡ None
only_none P never None here = refl
only_none P never (Some x) here = absurd (never x here)

pub returns-clause-items : goal.returns-clause-items
returns-clause-items c = c.in_ok-latest.ensures.items_if_clones_equal (only_none _ (λ x h. h))
