-- Items that are collected from those of a list, one after the other.
use Rattle.std.proofs.Common.{◌≡◌, ℕ, ◌+◌, ◌≤◌, List, [], ◌∷◌, ◌++◌, length, take, ap, sym, ◌∙◌, append_assoc, append-nil}
use Rattle.std.specs.List.{flat_map}
use Rattle.std.proofs.lemmas.Grind.{flat_map-append}
use Rattle.std.proofs.lemmas.List.{take_all}

-- those of one item more
pub one_more_from : {A B : Type 0} (f : A → List B) (xs : List A) (i : ℕ) (x : A) (start old new : List B) → take i xs ++ x ∷ [] ≡ take (i + 1) xs → old ≡ start ++ flat_map f (take i xs) → new ≡ old ++ f x
    → new ≡ start ++ flat_map f (take (i + 1) xs)
one_more_from f xs i x start old new more so_far added =
    added
    ∙ ap (λ ys. ys ++ f x) so_far
    ∙ append_assoc start (flat_map f (take i xs)) (f x)
    ∙ ap (λ ys. start ++ (flat_map f (take i xs) ++ ys)) (sym (append-nil (f x)))
    ∙ ap (λ ys. start ++ ys) (sym (flat_map-append f (take i xs) (x ∷ [])))
    ∙ ap (λ zs. start ++ flat_map f zs) more

-- those of all
pub all_from : {A B : Type 0} (f : A → List B) (xs : List A) (i : ℕ) (start now : List B) → length xs ≤ i → now ≡ start ++ flat_map f (take i xs) → now ≡ start ++ flat_map f xs
all_from f xs i start now high so_far = so_far ∙ ap (λ zs. start ++ flat_map f zs) (take_all i xs high)
