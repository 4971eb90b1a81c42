-- Texts that are put one behind the other.
use Rattle.std.proofs.Common.{◌≡◌, ℕ, List, ◌++◌, ap, ◌∙◌, append_assoc}

-- some text was put, and then more
pub then_put : (old mid new first second : List ℕ) → mid ≡ old ++ first → new ≡ mid ++ second → new ≡ old ++ (first ++ second)
then_put old mid new first second one more = more ∙ ap (λ (l : List ℕ). l ++ second) one ∙ append_assoc old first second

-- a label and a number were put, and then more
pub then_number : (old mid new label digits rest : List ℕ) → mid ≡ old ++ (label ++ digits) → new ≡ mid ++ rest → new ≡ old ++ (label ++ (digits ++ rest))
then_number old mid new label digits rest one more = then_put old mid new (label ++ digits) rest one more ∙ ap (λ (l : List ℕ). old ++ l) (append_assoc label digits rest)
