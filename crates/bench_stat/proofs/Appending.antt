-- Texts that a writer got, one after the other.
use Rattle.std.proofs.Common.{◌≡◌, ℕ, ◌+◌, ◌<◌, ◌≤◌, List, [], ◌∷◌, ◌++◌, length, take, get_or, Option, Result, Ok, Err, OnOk, sym, ap, ◌∙◌, subst, append_assoc, append-nil, arith}
use Rattle.std.proofs.KnownBytes.{Appends-trans}
use Rattle.std.proofs.lemmas.List.{length-take-le, take_more, take_all}
use Rattle.std.specs.Io.KnownBytes.{Appends}
use Rattle.std.specs.List.{flat_map}
use Rattle.text_lines.specs.Words.{Text}
use Rattle.bench_stat.specs.ChannelText.{numbered}

-- a writer that got one text, and then another where a call came to its end
pub then_appends : {A E : Type 0} (r : Result A E) (old mid new : Option (List ℕ)) (first second : List ℕ) → Appends old mid first → OnOk r (Appends mid new second) → OnOk r (Appends old new (first ++ second))
then_appends (Ok x) old mid new first second a b = Appends-trans old mid new first second a b
then_appends (Err e) old mid new first second a b = tt

-- the texts of a list with one more
flat_more : {X : Type 0} (f : X → Text) (xs : List X) (x : X) → flat_map f (xs ++ x ∷ []) ≡ flat_map f xs ++ f x
flat_more f [] x = append-nil (f x)
flat_more f (y ∷ ys) x = ap (λ (t : Text). f y ++ t) (flat_more f ys x) ∙ sym (append_assoc (f y) (flat_map f ys) (f x))

-- a writer that got the texts of the first i of a list behind another text, and then that of the next
pub goes_on : {X : Type 0} (f : X → Text) (all : List X) (i : ℕ) (one d : X) (old mid new : Option (List ℕ)) (front : Text) → one ≡ get_or all i d → i < length all → Appends old mid (front ++ flat_map f (take i all)) → Appends mid new (f one)
    → Appends old new (front ++ flat_map f (take (i + 1) all))
goes_on f all i one d old mid new front is lt so_far next =
    subst (Appends old new)
    (append_assoc front (flat_map f (take i all)) (f one)
    ∙ ap (λ (t : Text). front ++ t) (sym (flat_more f (take i all) one) ∙ ap (flat_map f) (ap (λ x. take i all ++ x ∷ []) is ∙ sym (take_more all i d lt))))
    (Appends-trans old mid new (front ++ flat_map f (take i all)) (f one) so_far next)

pub all_got : {X : Type 0} (f : X → Text) (all : List X) (i : ℕ) (old new : Option (List ℕ)) (front : Text) → length all ≤ i → Appends old new (front ++ flat_map f (take i all)) → Appends old new (front ++ flat_map f all)
all_got f all i old new front le got = subst (λ xs. Appends old new (front ++ flat_map f xs)) (take_all i all le) got

-- numbered texts of a list with one more
numbered_more : {X : Type 0} (f : ℕ → X → Text) (n : ℕ) (xs : List X) (x : X) → numbered f n (xs ++ x ∷ []) ≡ numbered f n xs ++ f (n + length xs) x
numbered_more f n [] x = append-nil (f n x) ∙ ap (λ k. f k x) (omega arith)
numbered_more f n (y ∷ ys) x = ap (λ (t : Text). f n y ++ t) (numbered_more f (n + 1) ys x ∙ ap (λ k. numbered f (n + 1) ys ++ f k x) (omega arith)) ∙ sym (append_assoc (f n y) (numbered f (n + 1) ys) (f (n + length (y ∷ ys)) x))

pub goes_on_numbered : {X : Type 0} (f : ℕ → X → Text) (all : List X) (i : ℕ) (d : X) (old mid new : Option (List ℕ)) (front : Text) → i < length all → Appends old mid (front ++ numbered f 0 (take i all)) → Appends mid new (f i (get_or all i d))
    → Appends old new (front ++ numbered f 0 (take (i + 1) all))
goes_on_numbered f all i d old mid new front lt so_far next =
    let place : 0 + length (take i all) ≡ i = omega (arith, length-take-le i all (omega (arith, lt))) in
    subst (Appends old new)
    (append_assoc front (numbered f 0 (take i all)) (f i (get_or all i d))
    ∙ ap (λ (t : Text). front ++ t) (ap (λ k. numbered f 0 (take i all) ++ f k (get_or all i d)) (sym place) ∙ sym (numbered_more f 0 (take i all) (get_or all i d)) ∙ ap (numbered f 0) (sym (take_more all i d lt))))
    (Appends-trans old mid new (front ++ numbered f 0 (take i all)) (f i (get_or all i d)) so_far next)

pub all_numbered : {X : Type 0} (f : ℕ → X → Text) (all : List X) (i : ℕ) (old new : Option (List ℕ)) (front : Text) → length all ≤ i → Appends old new (front ++ numbered f 0 (take i all)) → Appends old new (front ++ numbered f 0 all)
all_numbered f all i old new front le got = subst (λ xs. Appends old new (front ++ numbered f 0 xs)) (take_all i all le) got
