-- What a channel has offered, one message more at a time.
use Rattle.std.proofs.Common.{◌≡◌, ℕ, zero, suc, ◌+◌, ◌-◌, ◌≤◌, Bool, true, false, not, ◌||◌, eqb, List, [], ◌∷◌, ◌++◌, length, map, take, refl, ap, ◌∙◌, arith}
use Rattle.std.specs.Prelude.{Some, slice_get}
use Rattle.std.specs.List.{AllByRecursion, filter, list_any}
use Rattle.std.proofs.lemmas.Bool.{ne_eqb}
use Rattle.std.proofs.lemmas.List.{length-map}
use Rattle.std.proofs.lemmas.List.Folds.{list_any-append}
use Rattle.ch11_f1.specs.declared.Record.{Record}
use Rattle.mil_trunk.proofs.Tagging.{length-filter_le}
use Rattle.ch11_recording.specs.Items.{numbered, numbered_from}
use Rattle.bench_report.specs.Reports.{Rises}
use Rattle.bench_settings.specs.Kept.{is_kept, kept_records}
use Rattle.bench_settings.proofs.Lists.{NoneAbove}
use Rattle.bench_run.specs.Entries.{entry_of}

-- ---- lists

pub take_more : {X : Type 0} (n : ℕ) (xs : List X) (x : X) → slice_get xs n ≡ Some x → take (n + 1) xs ≡ take n xs ++ x ∷ []
take_more n [] x at = absurd cc
take_more zero (y ∷ xs) x at = let is : y ≡ x = cc in ap (λ z. z ∷ []) is
take_more (suc n) (y ∷ xs) x at =
    let longer : suc n + 1 ≡ suc (n + 1) = omega arith in
    ap (λ (k : ℕ). take k (y ∷ xs)) longer ∙ ap (λ l. y ∷ l) (take_more n xs x at)

pub all_more : {X : Type 0} (P : X → Type 0) (xs : List X) (x : X) → AllByRecursion P xs → P x → AllByRecursion P (xs ++ x ∷ [])
all_more P [] x all is = (is, tt)
all_more P (y ∷ xs) x all is = (all.0, all_more P xs x all.1 is)

-- ---- refused numbers

pub none_above : (low most : ℕ) (ns : List ℕ) → Rises low most ns → NoneAbove most ns
none_above low most [] up = tt
none_above low most (n ∷ ns) up = (up.1, none_above n most ns up.2)

pub rises_on : (low most : ℕ) (ns : List ℕ) → Rises low most ns → Rises low (most + 1) ns
rises_on low most [] up = tt
rises_on low most (n ∷ ns) up = (up.0, omega (arith, up.1), rises_on n most ns up.2)

pub rises_more : (low most : ℕ) (ns : List ℕ) → low ≤ most → Rises low most ns → Rises low (most + 1) (ns ++ (most + 1) ∷ [])
rises_more low most [] le up = (omega (arith, le), omega arith, tt)
rises_more low most (n ∷ ns) le up = (up.0, omega (arith, up.1), rises_more n most ns up.1 up.2)

pub rises_length : (low most : ℕ) (ns : List ℕ) → low ≤ most → Rises low most ns → low + length ns ≤ most
rises_length low most [] le up = omega (arith, le)
rises_length low most (n ∷ ns) le up = let rest = rises_length n most ns up.1 up.2 in omega (arith, up.0, rest)

-- ---- kept records

-- a later number refused makes no difference
kept_before : (refused : List ℕ) (next number count : ℕ) (rs : List Record) → number + count ≤ next
    → filter (is_kept (refused ++ next ∷ [])) (numbered_from number (take count rs)) ≡ filter (is_kept refused) (numbered_from number (take count rs))
kept_before refused next number zero rs le = refl
kept_before refused next number (suc count) [] le = refl
kept_before refused next number (suc count) (r ∷ rs) le =
    let rest = kept_before refused next (suc number) count rs (omega (arith, le)) in
    let other : eqb next number ≡ false = ne_eqb next number (λ e. absurd (omega (arith, le, e))) in
    let same : is_kept (refused ++ next ∷ []) (numbered number r) ≡ is_kept refused (numbered number r) =
    ap not (list_any-append (λ (k : ℕ). eqb k number) refused (next ∷ []) ∙ ap (λ (b : Bool). list_any (λ (k : ℕ). eqb k number) refused || (b || false)) other ∙ or_false (list_any (λ (k : ℕ). eqb k number) refused)) in
    rw (same, rest) refl
  where
    or_false : (b : Bool) → (b || (false || false)) ≡ b
    or_false true = refl
    or_false false = refl

length-numbered_from : (number : ℕ) (rs : List Record) → length (numbered_from number rs) ≡ length rs
length-numbered_from number [] = refl
length-numbered_from number (r ∷ rs) = ap suc (length-numbered_from (suc number) rs)

-- the kept are no more than all
pub length-kept : (index : ℕ) (refused : List ℕ) (rs : List Record) → length (map (entry_of index) (kept_records refused rs)) ≤ length rs
length-kept index refused rs =
    let fewer = length-filter_le (is_kept refused) (numbered_from 1 rs) in
    omega (arith, length-map (kept_records refused rs) (entry_of index), fewer, length-numbered_from 1 rs)

-- ---- the list of refused, where `room` is what the capacity has to stay under

abbrev pub IsFull : ℕ → ℕ → List ℕ → List Record → ℕ → Type 0
IsFull capacity others refused rs n = capacity ≤ length (kept_records refused (take (n - 1) rs)) + others

full_before : (capacity others : ℕ) (refused : List ℕ) (rs : List Record) (most : ℕ) (ns : List ℕ) → NoneAbove most ns
    → AllByRecursion (IsFull capacity others refused rs) ns → AllByRecursion (IsFull capacity others (refused ++ (most + 1) ∷ []) rs) ns
full_before capacity others refused rs most [] low all = tt
full_before capacity others refused rs most (n ∷ ns) low all =
    let same : kept_records (refused ++ (most + 1) ∷ []) (take (n - 1) rs) ≡ kept_records refused (take (n - 1) rs) = kept_before refused (most + 1) 1 (n - 1) rs (omega (arith, low.0)) in
    (rw same all.0, full_before capacity others refused rs most ns low.1 all.1)

pub full_more : (capacity others : ℕ) (refused : List ℕ) (rs : List Record) (made : ℕ) → NoneAbove made refused
    → AllByRecursion (IsFull capacity others refused rs) refused → capacity ≤ length (kept_records refused (take made rs)) + others
    → AllByRecursion (IsFull capacity others (refused ++ (made + 1) ∷ []) rs) (refused ++ (made + 1) ∷ [])
full_more capacity others refused rs made low all here =
    let same : kept_records (refused ++ (made + 1) ∷ []) (take (made + 1 - 1) rs) ≡ kept_records refused (take made rs) =
    ap (λ k. kept_records (refused ++ (made + 1) ∷ []) (take k rs)) (less made) ∙ kept_before refused (made + 1) 1 made rs (omega arith) in
    all_more (IsFull capacity others (refused ++ (made + 1) ∷ []) rs) refused (made + 1) (full_before capacity others refused rs made refused low all) (rw same here)
  where
    less : (k : ℕ) → k + 1 - 1 ≡ k
    less k = omega arith
