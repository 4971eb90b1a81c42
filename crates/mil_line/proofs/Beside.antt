-- Faults that stand beside their numbers, which never fall.
use Rattle.std.proofs.Common.{◌≡◌, ◌≢◌, ◌+◌, ◌-◌, ◌<◌, ◌≤◌, ◌==◌, ℕ, zero, suc, Bool, true, false, cond, if◌then◌else◌, Some, None, List, [], ◌∷◌, ◌++◌, length, get_or, drop, refl, sym, ap, subst, ◌∙◌, arith}
use Rattle.std.specs.List.{zip, cons_option, AllWithin}
use Rattle.std.specs.List.Sorted.{IsNonDecreasing}
use Rattle.std.specs.Prelude.{All}
use Rattle.std.proofs.lemmas.Bool.Decides.{nat_tests}
use Rattle.std.proofs.lemmas.List.{drop_more, get_or_default, length-append}
use Rattle.std.proofs.lemmas.List.Sorted.{IsNonDecreasingBy-push}
use Rattle.mil_line.specs.declared.faults.Fault.{Fault}
use Rattle.mil_line.specs.declared.faults.Fault.TheVariants.{Mute}
use Rattle.mil_line.specs.Plans.{Planned, faults_of}
use Rattle.mil_line.specs.StandsFor.{AreRising, IsBehind}

-- ---- two lists side by side

pub zip_length : (ns : List ℕ) (fs : List Fault) → length fs ≡ length ns → length (zip ns fs) ≡ length ns
zip_length [] fs e = refl
zip_length (n ∷ ns) [] e = absurd (omega (arith, e))
zip_length (n ∷ ns) (f ∷ fs) e =
    let rest = zip_length ns fs (omega (arith, e)) in
    omega (arith, rest)

pub zip_push : (ns : List ℕ) (fs : List Fault) (n : ℕ) (f : Fault) → length fs ≡ length ns → zip (ns ++ n ∷ []) (fs ++ f ∷ []) ≡ zip ns fs ++ (n, f) ∷ []
zip_push [] [] n f e = refl
zip_push [] (g ∷ fs) n f e = absurd (omega (arith, e))
zip_push (m ∷ ns) [] n f e = absurd (omega (arith, e))
zip_push (m ∷ ns) (g ∷ fs) n f e = ap (λ (ps : List Planned). (m, g) ∷ ps) (zip_push ns fs n f (omega (arith, e)))

pub zip_number : (ns : List ℕ) (fs : List Fault) (k : ℕ) (d : Planned) → length fs ≡ length ns → (get_or (zip ns fs) k d).0 ≡ get_or ns k d.0
zip_number [] fs k d e = refl
zip_number (n ∷ ns) [] k d e = absurd (omega (arith, e))
zip_number (n ∷ ns) (f ∷ fs) zero d e = refl
zip_number (n ∷ ns) (f ∷ fs) (suc k) d e = zip_number ns fs k d (omega (arith, e))

pub zip_fault : (ns : List ℕ) (fs : List Fault) (k : ℕ) (d : Planned) → length fs ≡ length ns → (get_or (zip ns fs) k d).1 ≡ get_or fs k d.1
zip_fault [] [] k d e = refl
zip_fault [] (f ∷ fs) k d e = absurd (omega (arith, e))
zip_fault (n ∷ ns) [] k d e = absurd (omega (arith, e))
zip_fault (n ∷ ns) (f ∷ fs) zero d e = refl
zip_fault (n ∷ ns) (f ∷ fs) (suc k) d e = zip_fault ns fs k d (omega (arith, e))

-- a number is behind each of a list where it is behind each number
pub behind_all : (ns : List ℕ) (fs : List Fault) (number : ℕ) → length fs ≡ length ns → All (λ n. n ≤ number) ns → IsBehind number (zip ns fs)
behind_all ns fs number e all k d lt =
    subst (λ n. n ≤ number) (sym (zip_number ns fs k d e)) (all k d.0 (omega (arith, lt, zip_length ns fs e)))

pub all_behind : (ns : List ℕ) (fs : List Fault) (number : ℕ) → length fs ≡ length ns → IsBehind number (zip ns fs) → All (λ n. n ≤ number) ns
all_behind ns fs number e all k d lt =
    let any : Planned = (d, Mute 1) in
    subst (λ n. n ≤ number) (zip_number ns fs k any e) (all k any (omega (arith, lt, zip_length ns fs e)))

-- one more that is behind all
pub rising_push : (ns : List ℕ) (fs : List Fault) (number : ℕ) (fault : Fault) → AreRising ns fs → IsBehind number (zip ns fs) → AreRising (ns ++ number ∷ []) (fs ++ fault ∷ [])
rising_push ns fs number fault is behind = record {
  rising = IsNonDecreasingBy-push (λ (n : ℕ). n) ns number is.rising (λ d some. all_behind ns fs number is.beside behind (length ns - 1) d (omega (arith, some)));
  beside = omega (arith, is.beside, length-append ns (number ∷ []), length-append fs (fault ∷ []));
}

-- a number at or behind the last one is behind each
pub behind_last : (ns : List ℕ) (number e : ℕ) → IsNonDecreasing ns → get_or ns (length ns - 1) e ≤ number → All (λ n. n ≤ number) ns
behind_last ns number e rising most k d lt =
    let last : get_or ns k e ≤ get_or ns (length ns - 1) e = rising k (length ns - 1) e (omega (arith, lt)) (omega (arith, lt)) in
    let here : get_or ns k d ≡ get_or ns k e = get_or_default ns k d e lt in
    omega (arith, last, here, most)

-- ---- the faults of a number in a list

with_test : (same : Bool) (f : Fault) (fs : List Fault) → cons_option (if same then Some f else None) fs ≡ cond same (f ∷ fs) fs
with_test true f fs = refl
with_test false f fs = refl

when_other : (a b : ℕ) (xs ys : List Fault) → a ≢ b → cond (a == b) xs ys ≡ ys
when_other a b xs ys differ = grind (arith, nat_tests)

when_it : (a b : ℕ) (xs ys : List Fault) → a ≡ b → cond (a == b) xs ys ≡ xs
when_it a b xs ys is = grind (arith, nat_tests)

of_other : (number : ℕ) (p : Planned) (ps : List Planned) → p.0 ≢ number → faults_of number (p ∷ ps) ≡ faults_of number ps
of_other number p ps differ = with_test (p.0 == number) p.1 (faults_of number ps) ∙ when_other p.0 number (p.1 ∷ faults_of number ps) (faults_of number ps) differ

of_it : (number : ℕ) (p : Planned) (ps : List Planned) → p.0 ≡ number → faults_of number (p ∷ ps) ≡ p.1 ∷ faults_of number ps
of_it number p ps is = with_test (p.0 == number) p.1 (faults_of number ps) ∙ when_it p.0 number (p.1 ∷ faults_of number ps) (faults_of number ps) is

-- those before are of numbers below
pub skip : (xs : List Planned) (f number : ℕ) → AllWithin (λ (p : Planned). p.0 < number) xs 0 f → faults_of number (drop f xs) ≡ faults_of number xs
skip xs zero number h = refl
skip [] (suc f) number h = refl
skip (x ∷ xs) (suc f) number h =
    let less : x.0 < number = h 0 x (omega arith) (omega arith) in
    skip xs f number (λ k d low high. h (suc k) d (omega arith) (omega (arith, high))) ∙ sym (of_other number x xs (λ e. omega (arith, e, less)))

-- those behind are of numbers above
pub none_from : (xs : List Planned) (i number : ℕ) → AllWithin (λ (p : Planned). number < p.0) xs i (length xs) → faults_of number (drop i xs) ≡ []
none_from [] zero number h = refl
none_from [] (suc i) number h = refl
none_from (x ∷ xs) zero number h =
    let more : number < x.0 = h 0 x (omega arith) (omega arith) in
    of_other number x xs (λ e. omega (arith, e, more)) ∙ none_from xs zero number (λ k d low high. h (suc k) d (omega arith) (omega (arith, high)))
none_from (x ∷ xs) (suc i) number h = none_from xs i number (λ k d low high. h (suc k) d (omega (arith, low)) (omega (arith, high)))

-- ---- a look along the numbers from the first one that is not below

pub first_place : (ns : List ℕ) (fs : List Fault) (number i : ℕ) → length fs ≡ length ns → AllWithin (λ n. n < number) ns 0 i
    → faults_of number (drop i (zip ns fs)) ≡ faults_of number (zip ns fs)
first_place ns fs number i e below =
    skip (zip ns fs) i number (λ k d low high. subst (λ n. n < number) (sym (zip_number ns fs k d e)) (below k d.0 low high))

pub next_place : (ns : List ℕ) (fs : List Fault) (number i : ℕ) (y : Fault) → length fs ≡ length ns → i < length ns → get_or ns i number ≡ number → y ≡ get_or fs i y
    → faults_of number (drop i (zip ns fs)) ≡ y ∷ faults_of number (drop (i + 1) (zip ns fs))
next_place ns fs number i y e lt is fault =
    let d : Planned = (number, y) in
    let rest = drop (i + 1) (zip ns fs) in
    let at : drop i (zip ns fs) ≡ get_or (zip ns fs) i d ∷ rest = drop_more (zip ns fs) i d (omega (arith, lt, zip_length ns fs e)) in
    ap (faults_of number) at
    ∙ of_it number (get_or (zip ns fs) i d) rest (zip_number ns fs i d e ∙ is)
    ∙ ap (λ (z : Fault). z ∷ faults_of number rest) (zip_fault ns fs i d e ∙ sym fault)

pub no_more : (ns : List ℕ) (fs : List Fault) (number i : ℕ) → length fs ≡ length ns → IsNonDecreasing ns → (i < length ns → number < get_or ns i number)
    → faults_of number (drop i (zip ns fs)) ≡ []
no_more ns fs number i e rising more =
    none_from (zip ns fs) i number (λ k d low high.
    let within : k < length ns = omega (arith, high, zip_length ns fs e) in
    let least : get_or ns i number ≤ get_or ns k number = rising i k number low within in
    let first : number < get_or ns i number = more (omega (arith, low, within)) in
    let here : get_or ns k d.0 ≡ get_or ns k number = get_or_default ns k d.0 number within in
    subst (λ n. number < n) (sym (zip_number ns fs k d e ∙ here)) (omega (arith, least, first)))
