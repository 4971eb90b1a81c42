-- Decimal digits, one behind the other.
use Rattle.std.proofs.Common.{◌≡◌, ℕ, suc, ◌+◌, ◌/◌, ◌%◌, List, [], ◌∷◌, ◌++◌, false, true, refl, sym, ap, ◌∙◌, append_assoc, add-one}
use Rattle.std.specs.Prelude.{◌==◌}
use Rattle.signal_values.specs.Texts.{digits_of, fraction}

-- decimal digits in front of the last, and the last
pub digits_more : (t0 t1 t2 : List ℕ) (rest count value : ℕ) → rest + 1 ≡ count → t1 ≡ t0 ++ digits_of rest (value / 10)
    → t2 ≡ t1 ++ (48 + value % 10) ∷ [] → t2 ≡ t0 ++ digits_of count value
unfolding digits_of
digits_more t0 t1 t2 rest count value is a b =
    b ∙ ap (λ (l : List ℕ). l ++ (48 + value % 10) ∷ []) a ∙ append_assoc t0 (digits_of rest (value / 10)) ((48 + value % 10) ∷ [])
    ∙ ap (λ (k : ℕ). t0 ++ digits_of k value) (sym (add-one rest) ∙ is)

-- the same, but for the zeros at the end
pub zero_next : (rest value : ℕ) → (value % 10 == 0) ≡ true → fraction (suc rest) value ≡ fraction rest (value / 10)
unfolding fraction
zero_next rest value zero = rw zero refl

pub digits_next : (rest value : ℕ) → (value % 10 == 0) ≡ false → fraction (suc rest) value ≡ digits_of (suc rest) value
unfolding fraction
digits_next rest value last = rw last refl

pub fraction_zero : (rest count value : ℕ) → rest + 1 ≡ count → (value % 10 == 0) ≡ true → fraction count value ≡ fraction rest (value / 10)
fraction_zero rest count value is zero = ap (λ (k : ℕ). fraction k value) (sym is ∙ add-one rest) ∙ zero_next rest value zero

pub fraction_digits : (rest count value : ℕ) → rest + 1 ≡ count → (value % 10 == 0) ≡ false → fraction count value ≡ digits_of count value
fraction_digits rest count value is last =
    ap (λ (k : ℕ). fraction k value) (sym is ∙ add-one rest) ∙ (digits_next rest value last ∙ ap (λ (k : ℕ). digits_of k value) (sym (add-one rest) ∙ is))
