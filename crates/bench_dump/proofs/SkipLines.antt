-- Lines of skips, one after the other.
use Rattle.std.proofs.Common.{◌≡◌, ℕ, List, [], ◌++◌, Option, sym, ap, ◌∙◌, refl, append_assoc}
use Rattle.bench_dump.specs.Printing.{Carries}
use Rattle.bench_dump.proofs.Steps.{carries_on, carries_nothing}

-- some of the lines were put, and these are left
pub record IsPassing (got : Option (List ℕ)) (waiting : List ℕ) (gets : Option (List ℕ)) (waits lines left : List ℕ) : Type 0 where
  pub more : List ℕ
  pub carried : Carries got waiting gets waits more
  pub whole : more ++ left ≡ lines

pub begins : (got : Option (List ℕ)) (waiting lines : List ℕ) → IsPassing got waiting got waiting lines lines
begins got waiting lines = record { more = []; carried = carries_nothing got waiting; whole = refl }

pub passes : (got mid gets : Option (List ℕ)) (waiting waits put then lines left line others : List ℕ) → IsPassing got waiting mid waits lines left → left ≡ line ++ others
    → put ≡ waits ++ line → Carries mid put gets then [] → IsPassing got waiting gets then lines others
passes got mid gets waiting waits put then lines left line others p is put_is on = record {
  more = p.more ++ line;
  carried = carries_on got mid gets waiting waits put then p.more line p.carried put_is on;
  whole = append_assoc p.more line others ∙ ap (λ (l : List ℕ). p.more ++ l) (sym is) ∙ p.whole;
}
