-- What the first difference of two readings of a channel says of them.
use Rattle.std.proofs.Common.{◌≡◌, ℕ, zero, suc, ◌+◌, ◌<◌, ◌⊎◌, inl, inr, Bool, true, false, cond, ◌&&◌, eqb, List, [], ◌∷◌, ◌++◌, length, Option, None, Some, slice_get, is_some, refl, sym, ap, subst, ◌∙◌, arith}
use Rattle.std.proofs.lemmas.Bool.{cases_eq, eqb-true}
use Rattle.std.proofs.lemmas.List.Sums.{sum_by-append}
use Rattle.ch11_layout.specs.Stamps.{Recorded}
use Rattle.ch11_reader.specs.Recording.{Found}
use Rattle.bench_select.specs.declared.selection.Selection.{Selection}
use Rattle.bench_compare.specs.Chosen.{chosen_in}
use Rattle.bench_compare.specs.Compared.{channel_of, compared_below, compared_if, compared_of, differing}
use Rattle.bench_compare.specs.Differences.{difference, difference_at, differs_behind, differs_by, origins_of, part_of}
use Rattle.bench_compare.specs.Laws.{AreSame, DifferIn, FirstDifference, NoDifference, NoneDiffers}
use Rattle.bench_compare.specs.declared.differences.Compared.{Compared}
use Rattle.bench_compare.specs.declared.differences.Difference.{Difference}
use Rattle.bench_compare.specs.declared.differences.Origins.{Origins}
use Rattle.bench_compare.specs.declared.differences.Part.{Part}
use Rattle.bench_compare.specs.declared.differences.Part.TheVariants.{MissingInFirst, MissingInSecond}
use Rattle.bench_compare.proofs.Ordered.{none_below, one_more}

-- ---- two readings of a channel

all_same : (within n : ℕ) (o : Origins) (xs ys : List Recorded) → differs_behind within n o xs ys ≡ None → (k : ℕ) → AreSame within o (slice_get xs k) (slice_get ys k)
all_same within n o [] [] is k = tt
all_same within n o [] (b ∷ ys) is k = absurd cc
all_same within n o (a ∷ xs) [] is k = absurd cc
all_same within n o (a ∷ xs) (b ∷ ys) is k = by (part_of within o a b) refl is (all_same within (n + 1) o xs ys) k
  where
    by : (found : Option Part) → part_of within o a b ≡ found → differs_by found (n + 1) o a b (differs_behind within (n + 1) o xs ys) ≡ None
        → (differs_behind within (n + 1) o xs ys ≡ None → (k : ℕ) → AreSame within o (slice_get xs k) (slice_get ys k)) → (k : ℕ) → AreSame within o (slice_get (a ∷ xs) k) (slice_get (b ∷ ys) k)
    by None seen is more zero = seen
    by None seen is more (suc k) = more is k
    by (Some part) seen is more k = absurd cc

none_told : (within n : ℕ) (o : Origins) (xs ys : List Recorded) → ((k : ℕ) → AreSame within o (slice_get xs k) (slice_get ys k)) → differs_behind within n o xs ys ≡ None
none_told within n o [] [] same = refl
none_told within n o [] (b ∷ ys) same = absurd (same zero)
none_told within n o (a ∷ xs) [] same = absurd (same zero)
none_told within n o (a ∷ xs) (b ∷ ys) same = ap (λ (found : Option Part). differs_by found (n + 1) o a b (differs_behind within (n + 1) o xs ys)) (same zero) ∙ none_told within (n + 1) o xs ys (λ k. same (suc k))

pub no_difference : NoDifference
no_difference within xs ys = (all_same within 0 (origins_of xs ys) xs ys, none_told within 0 (origins_of xs ys) xs ys)

-- the first place at which they differ, behind so many messages
record IsAt (within n : ℕ) (o : Origins) (xs ys : List Recorded) (d : Difference) : Type 0 where
  place : ℕ
  counted : d.number ≡ n + place + 1
  same : (k : ℕ) → k < place → AreSame within o (slice_get xs k) (slice_get ys k)
  first : d.first ≡ slice_get xs place
  second : d.second ≡ slice_get ys place
  part : DifferIn d.part within o (slice_get xs place) (slice_get ys place)
  origins : d.origins ≡ o

same_on : (within place : ℕ) (o : Origins) (a b : Recorded) (xs ys : List Recorded) → part_of within o a b ≡ None → ((k : ℕ) → k < place → AreSame within o (slice_get xs k) (slice_get ys k))
    → (k : ℕ) → k < suc place → AreSame within o (slice_get (a ∷ xs) k) (slice_get (b ∷ ys) k)
same_on within place o a b xs ys seen same zero less = seen
same_on within place o a b xs ys seen same (suc k) less = same k (omega (arith, less))

one_at : (within n : ℕ) (o : Origins) (xs ys : List Recorded) (d : Difference) → differs_behind within n o xs ys ≡ Some d → IsAt within n o xs ys d
one_at within n o [] [] d is = absurd cc
one_at within n o [] (b ∷ ys) d is =
    let e : difference_at (n + 1) MissingInFirst o None (Some b) ≡ d = cc in
    subst (IsAt within n o [] (b ∷ ys)) e (record { place = 0; counted = omega arith; same = λ k less. absurd (omega (arith, less)); first = refl; second = refl; part = refl; origins = refl })
one_at within n o (a ∷ xs) [] d is =
    let e : difference_at (n + 1) MissingInSecond o (Some a) None ≡ d = cc in
    subst (IsAt within n o (a ∷ xs) []) e (record { place = 0; counted = omega arith; same = λ k less. absurd (omega (arith, less)); first = refl; second = refl; part = refl; origins = refl })
one_at within n o (a ∷ xs) (b ∷ ys) d is = by (part_of within o a b) refl is (one_at within (n + 1) o xs ys d)
  where
    by : (found : Option Part) → part_of within o a b ≡ found → differs_by found (n + 1) o a b (differs_behind within (n + 1) o xs ys) ≡ Some d
        → (differs_behind within (n + 1) o xs ys ≡ Some d → IsAt within (n + 1) o xs ys d) → IsAt within n o (a ∷ xs) (b ∷ ys) d
    by (Some part) seen is more =
        let e : difference_at (n + 1) part o (Some a) (Some b) ≡ d = cc in
        subst (IsAt within n o (a ∷ xs) (b ∷ ys)) e (record { place = 0; counted = omega arith; same = λ k less. absurd (omega (arith, less)); first = refl; second = refl; part = seen; origins = refl })
    by None seen is more =
        let rest = more is in
        record { place = suc rest.place; counted = omega (arith, rest.counted); same = same_on within rest.place o a b xs ys seen rest.same; first = rest.first; second = rest.second; part = rest.part; origins = rest.origins }

pub first_difference : FirstDifference
first_difference within xs ys d is =
    let one = one_at within 0 (origins_of xs ys) xs ys d is in
    record { place = one.place; counted = omega (arith, one.counted); same = one.same; first = one.first; second = one.second; part = one.part; origins = one.origins }

-- ---- all channels

differing_both : (cs ds : List Compared) → differing (cs ++ ds) ≡ differing cs + differing ds
differing_both cs ds = sum_by-append (λ (c : Compared). cond (is_some c.difference) 1 0) cs ds

abbrev lone : ℕ → ℕ → ℕ → Option Difference → Compared
lone channel first second d = record { channel = channel; first = first; second = second; difference = d }

lone_same : (channel first second : ℕ) (d : Option Difference) → differing (lone channel first second d ∷ []) ≡ 0 → d ≡ None
lone_same channel first second None is = refl
lone_same channel first second (Some d) is = absurd (omega (arith, is))

and_first : (a b : Bool) → (a && b) ≡ true → a ≡ true
and_first true b e = refl
and_first false b e = e

both_empty : (within : ℕ) (xs ys : List Recorded) → (eqb (length xs) 0 && eqb (length ys) 0) ≡ true → difference within xs ys ≡ None
both_empty within [] [] e = refl
both_empty within [] (b ∷ ys) e = absurd (omega (arith, eqb-true (length (b ∷ ys)) 0 e))
both_empty within (a ∷ xs) ys e = absurd (omega (arith, eqb-true (length (a ∷ xs)) 0 (and_first (eqb (length (a ∷ xs)) 0) (eqb (length ys) 0) e)))

one_empty : (within channel : ℕ) (xs ys : List Recorded) (none : Bool) → differing (compared_if none (compared_of within channel xs ys)) ≡ 0 → (none ≡ true → difference within xs ys ≡ None) → difference within xs ys ≡ None
one_empty within channel xs ys true is empty = empty refl
one_empty within channel xs ys false is empty = lone_same channel (length xs) (length ys) (difference within xs ys) is

module _ (within : ℕ) (s t : Selection) (ps qs : List Found) where
  first_of : ℕ → Option Difference
  first_of channel = difference within (chosen_in s channel ps) (chosen_in t channel qs)

  so_many : ℕ → ℕ
  so_many n = differing (compared_below within s t ps qs n)

  none_here : (channel : ℕ) → differing (channel_of within s t ps qs channel) ≡ 0 → first_of channel ≡ None
  unfolding first_of
  none_here channel is = one_empty within channel (chosen_in s channel ps) (chosen_in t channel qs) (eqb (length (chosen_in s channel ps)) 0 && eqb (length (chosen_in t channel qs)) 0) is (both_empty within (chosen_in s channel ps) (chosen_in t channel qs))

  here_none : (channel : ℕ) → first_of channel ≡ None → differing (channel_of within s t ps qs channel) ≡ 0
  unfolding first_of
  here_none channel is = by (eqb (length (chosen_in s channel ps)) 0 && eqb (length (chosen_in t channel qs)) 0)
    where
      by : (none : Bool) → differing (compared_if none (compared_of within channel (chosen_in s channel ps) (chosen_in t channel qs))) ≡ 0
      by true = refl
      by false = ap (λ (d : Option Difference). differing (lone channel (length (chosen_in s channel ps)) (length (chosen_in t channel qs)) d ∷ [])) is

  more : (n : ℕ) → so_many (suc n) ≡ so_many n + differing (channel_of within s t ps qs n)
  unfolding so_many
  more n =
      let next : suc n ≡ n + 1 = omega arith in
      ap (λ (k : ℕ). differing (compared_below within s t ps qs k)) next ∙ ap differing (sym (one_more within s t ps qs n)) ∙ differing_both (compared_below within s t ps qs n) (channel_of within s t ps qs n)

  none_of_all : (n : ℕ) → so_many n ≡ 0 → (channel : ℕ) → channel < n → first_of channel ≡ None
  none_of_all zero is channel less = absurd (omega (arith, less))
  none_of_all (suc n) is channel less = by (cases_eq channel n) (none_of_all n (omega (arith, is, more n)) channel)
    where
      by : (channel ≡ n) ⊎ (channel ≡ n → ⊥) → (channel < n → first_of channel ≡ None) → first_of channel ≡ None
      by (inl same) below = subst (λ (k : ℕ). first_of k ≡ None) (sym same) (none_here n (omega (arith, is, more n)))
      by (inr other) below = below (omega (arith, less, other))

  all_none : (n : ℕ) → ((channel : ℕ) → channel < n → first_of channel ≡ None) → so_many n ≡ 0
  unfolding so_many
  all_none zero same = ap differing (none_below within s t ps qs)
  all_none (suc n) same = omega (arith, more n, all_none n (λ channel less. same channel (omega (arith, less))), here_none n (same n (omega arith)))

pub none_differs : NoneDiffers
unfolding first_of so_many
none_differs within s t ps qs = (
  λ none channel less. (no_difference within (chosen_in s channel ps) (chosen_in t channel qs)).0 (none_of_all within s t ps qs 65536 none channel less),
  λ same. all_none within s t ps qs 65536 (λ channel less. (no_difference within (chosen_in s channel ps) (chosen_in t channel qs)).1 (same channel less)),
)
