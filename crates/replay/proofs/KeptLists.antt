-- Kept records: one more of them, and those behind.
use Rattle.std.proofs.Common.{◌≡◌, ℕ, zero, suc, ◌+◌, ◌<◌, ◌≤◌, Bool, true, false, not, cond, eqb, List, [], ◌∷◌, ◌++◌, length, map, take, Some, refl, ap, ◌∙◌, arith}
use Rattle.std.specs.List.{AllByRecursion, slice_get, list_any, filter}
use Rattle.std.proofs.lemmas.List.{append-nil}
use Rattle.std.proofs.lemmas.List.Elements.{filter-append}
use Rattle.ch11_f1.specs.declared.Record.{Record}
use Rattle.ch11_f1.specs.BodyReading.{Message}
use Rattle.ch11_f1.specs.Again.{as_message}
use Rattle.ch11_builder.specs.Packet.{Numbered, messages_of}
use Rattle.ch11_builder.specs.Packet as packet
use Rattle.ch11_recording.specs.Items.{numbered, numbered_from, last_number}
use Rattle.bench_settings.specs.Kept.{is_kept, kept_records}
use Rattle.bench_settings.proofs.Lists.{numbered_more}

-- as messages of a file
abbrev pub heard : List Numbered → List Message
heard ns = map as_message (messages_of ns)

pub heard_both : (ns ms : List Numbered) → heard (ns ++ ms) ≡ heard ns ++ heard ms
heard_both [] ms = refl
heard_both (n ∷ ns) ms = ap (λ (xs : List Message). as_message n.message ∷ xs) (heard_both ns ms)

pub heard_length : (ns : List Numbered) → length (heard ns) ≡ length ns
heard_length [] = refl
heard_length (n ∷ ns) = ap suc (heard_length ns)

-- ---- one more

module _ (refused : List ℕ) (n : ℕ) (rs : List Record) (r : Record) (at : slice_get rs n ≡ Some r) where
  more : numbered_from 1 (take (n + 1) rs) ≡ numbered_from 1 (take n rs) ++ numbered (n + 1) r ∷ []
  more =
      let place : 1 + n ≡ n + 1 = omega arith in
      numbered_more 1 n rs r at ∙ ap (λ (k : ℕ). numbered_from 1 (take n rs) ++ numbered k r ∷ []) place

  split_last : kept_records refused (take (n + 1) rs) ≡ kept_records refused (take n rs) ++ cond (not (list_any (λ (k : ℕ). eqb k (n + 1)) refused)) (numbered (n + 1) r ∷ []) []
  split_last = ap (filter (is_kept refused)) more ∙ filter-append (is_kept refused) (numbered_from 1 (take n rs)) (numbered (n + 1) r ∷ [])

  pub kept_next : list_any (λ (k : ℕ). eqb k (n + 1)) refused ≡ false → kept_records refused (take (n + 1) rs) ≡ kept_records refused (take n rs) ++ numbered (n + 1) r ∷ []
  kept_next e = split_last ∙ ap (λ (b : Bool). kept_records refused (take n rs) ++ cond (not b) (numbered (n + 1) r ∷ []) []) e

  pub kept_same : list_any (λ (k : ℕ). eqb k (n + 1)) refused ≡ true → kept_records refused (take (n + 1) rs) ≡ kept_records refused (take n rs)
  kept_same e =
      split_last
      ∙ ap (λ (b : Bool). kept_records refused (take n rs) ++ cond (not b) (numbered (n + 1) r ∷ []) []) e
      ∙ append-nil (kept_records refused (take n rs))

-- ---- those behind

-- these numbers are not below one
abbrev pub AreFrom : ℕ → List Numbered → Type 0
AreFrom low ns = AllByRecursion (λ (n : Numbered). low ≤ n.number) ns

from_less : (low next : ℕ) (ns : List Numbered) → low ≤ next → AreFrom next ns → AreFrom low ns
from_less low next [] le all = tt
from_less low next (n ∷ ns) le all = (omega (arith, le, all.0), from_less low next ns le all.1)

filtered_from : (refused : List ℕ) (low : ℕ) (ns : List Numbered) → AreFrom low ns → AreFrom low (filter (is_kept refused) ns)
filtered_from refused low [] all = tt
filtered_from refused low (n ∷ ns) all = by_case (is_kept refused n) (filtered_from refused low ns all.1)
  where
    by_case : (b : Bool) → AreFrom low (filter (is_kept refused) ns) → AreFrom low (cond b (n ∷ filter (is_kept refused) ns) (filter (is_kept refused) ns))
    by_case true later = (all.0, later)
    by_case false later = later

numbers_from : (number : ℕ) (rs : List Record) → AreFrom number (numbered_from number rs)
numbers_from number [] = tt
numbers_from number (r ∷ rs) = (omega arith, from_less number (suc number) (numbered_from (suc number) rs) (omega arith) (numbers_from (suc number) rs))

-- a longer part of the records has more of them kept, whose numbers are larger
pub record HasMore (refused : List ℕ) (s n k : ℕ) (rs : List Record) : Type 0 where
  pub later : List Numbered
  pub is : filter (is_kept refused) (numbered_from s (take k rs)) ≡ filter (is_kept refused) (numbered_from s (take n rs)) ++ later
  pub larger : AreFrom (s + n) later

pub has_more : (refused : List ℕ) (s n k : ℕ) (rs : List Record) → n ≤ k → HasMore refused s n k rs
has_more refused s zero k rs le = record {
  later = filter (is_kept refused) (numbered_from s (take k rs));
  is = refl;
  larger = filtered_from refused (s + 0) (numbered_from s (take k rs)) (from_less (s + 0) s (numbered_from s (take k rs)) (omega arith) (numbers_from s (take k rs)));
}
has_more refused s (suc n) zero rs le = absurd (omega (arith, le))
has_more refused s (suc n) (suc k) [] le = record { later = []; is = refl; larger = tt }
has_more refused s (suc n) (suc k) (r ∷ rs) le =
    let h : HasMore refused (suc s) n k rs = has_more refused (suc s) n k rs (omega (arith, le)) in
    record {
      later = h.later;
      is = by_case (is_kept refused (numbered s r)) h.later h.is;
      larger = from_less (s + suc n) (suc s + n) h.later (omega arith) h.larger;
    }
  where
    by_case : (b : Bool) (later : List Numbered) → filter (is_kept refused) (numbered_from (suc s) (take k rs)) ≡ filter (is_kept refused) (numbered_from (suc s) (take n rs)) ++ later
        → cond b (numbered s r ∷ filter (is_kept refused) (numbered_from (suc s) (take k rs))) (filter (is_kept refused) (numbered_from (suc s) (take k rs)))
        ≡ cond b (numbered s r ∷ filter (is_kept refused) (numbered_from (suc s) (take n rs))) (filter (is_kept refused) (numbered_from (suc s) (take n rs))) ++ later
    by_case true later e = ap (λ (ns : List Numbered). numbered s r ∷ ns) e
    by_case false later e = e

-- what stands in two lists one behind the other
pub in_front : {X : Type 0} (xs ys : List X) (i : ℕ) → i < length xs → slice_get (xs ++ ys) i ≡ slice_get xs i
in_front [] ys i less = absurd (omega (arith, less))
in_front (x ∷ xs) ys zero less = refl
in_front (x ∷ xs) ys (suc i) less = in_front xs ys i (omega (arith, less))

pub at_seam : {X : Type 0} (xs ys : List X) → slice_get (xs ++ ys) (length xs) ≡ slice_get ys 0
at_seam [] ys = refl
at_seam (x ∷ xs) ys = at_seam xs ys

-- a number that is not above so many stands among their kept ones
pub stands_early : (xs ys : List Numbered) (low i : ℕ) (x : Numbered) → AreFrom low ys → slice_get (xs ++ ys) i ≡ Some x → x.number < low → i < length xs
stands_early [] [] low i x all at less = absurd cc
stands_early [] (y ∷ ys) low zero x all at less = let same : y ≡ x = cc in absurd (omega (arith, all.0, less, ap (λ (n : Numbered). n.number) same))
stands_early [] (y ∷ ys) low (suc i) x all at less = absurd (let wrong : i < length (let none : List Numbered = [] in none) = stands_early [] ys low i x all.1 at less in omega (arith, wrong))
stands_early (z ∷ xs) ys low zero x all at less = omega arith
stands_early (z ∷ xs) ys low (suc i) x all at less = let later : i < length xs = stands_early xs ys low i x all at less in omega (arith, later)

-- ---- the number of the last of so many

-- these numbers rise from one on
abbrev Rises : ℕ → List Numbered → Type 0
Rises low [] = Unit {0}
Rises low (n ∷ ns) = (low ≤ n.number) × Rises n.number ns

rises_less : (low next : ℕ) (ns : List Numbered) → low ≤ next → Rises next ns → Rises low ns
rises_less low next [] le all = tt
rises_less low next (n ∷ ns) le all = (omega (arith, le, all.0), all.1)

filter_rises : (refused : List ℕ) (low : ℕ) (ns : List Numbered) → Rises low ns → Rises low (filter (is_kept refused) ns)
filter_rises refused low [] all = tt
filter_rises refused low (n ∷ ns) all = by_case (is_kept refused n) (filter_rises refused n.number ns all.1)
  where
    by_case : (b : Bool) → Rises n.number (filter (is_kept refused) ns) → Rises low (cond b (n ∷ filter (is_kept refused) ns) (filter (is_kept refused) ns))
    by_case true later = (all.0, later)
    by_case false later = rises_less low n.number (filter (is_kept refused) ns) all.0 later

numbers_rise : (number : ℕ) (rs : List Record) → Rises number (numbered_from number rs)
numbers_rise number [] = tt
numbers_rise number (r ∷ rs) = (omega arith, rises_less number (suc number) (numbered_from (suc number) rs) (omega arith) (numbers_rise (suc number) rs))

not_before : (low k : ℕ) (ns : List Numbered) → Rises low ns → low ≤ packet.last_number low (take k ns)
not_before low zero ns all = omega arith
not_before low (suc k) [] all = omega arith
not_before low (suc k) (n ∷ ns) all = omega (arith, all.0, not_before n.number k ns all.1)

last_rises : (low j k : ℕ) (ns : List Numbered) → Rises low ns → j ≤ k → packet.last_number low (take j ns) ≤ packet.last_number low (take k ns)
last_rises low zero k ns all le = not_before low k ns all
last_rises low (suc j) zero ns all le = absurd (omega (arith, le))
last_rises low (suc j) (suc k) [] all le = omega arith
last_rises low (suc j) (suc k) (n ∷ ns) all le = last_rises n.number j k ns all.1 (omega (arith, le))

-- these numbers are below one
abbrev AreBelow : ℕ → List Numbered → Type 0
AreBelow high ns = AllByRecursion (λ (n : Numbered). n.number < high) ns

filter_below : (refused : List ℕ) (high : ℕ) (ns : List Numbered) → AreBelow high ns → AreBelow high (filter (is_kept refused) ns)
filter_below refused high [] all = tt
filter_below refused high (n ∷ ns) all = by_case (is_kept refused n) (filter_below refused high ns all.1)
  where
    by_case : (b : Bool) → AreBelow high (filter (is_kept refused) ns) → AreBelow high (cond b (n ∷ filter (is_kept refused) ns) (filter (is_kept refused) ns))
    by_case true later = (all.0, later)
    by_case false later = later

numbers_below : (number high : ℕ) (rs : List Record) → number + length rs ≤ high → AreBelow high (numbered_from number rs)
numbers_below number high [] le = tt
numbers_below number high (r ∷ rs) le = (omega (arith, le), numbers_below (suc number) high rs (omega (arith, le)))

last_below : (low high k : ℕ) (ns : List Numbered) → low < high → AreBelow high ns → packet.last_number low (take k ns) < high
last_below low high zero ns less all = less
last_below low high (suc k) [] less all = less
last_below low high (suc k) (n ∷ ns) less all = last_below n.number high k ns all.0 all.1

module _ (refused : List ℕ) (rs : List Record) where
  -- the last of more of them has no smaller number
  pub later_number : (j k : ℕ) → j ≤ k → last_number (take j (kept_records refused rs)) ≤ last_number (take k (kept_records refused rs))
  later_number j k le = last_rises 0 j k (kept_records refused rs) (filter_rises refused 0 (numbered_from 1 rs) (rises_less 0 1 (numbered_from 1 rs) (omega arith) (numbers_rise 1 rs))) le

  -- nor one above as many as there are
  pub number_within : (k : ℕ) → last_number (take k (kept_records refused rs)) ≤ length rs
  number_within k =
      let below : last_number (take k (kept_records refused rs)) < suc (length rs) = last_below 0 (suc (length rs)) k (kept_records refused rs) (omega arith) (filter_below refused (suc (length rs)) (numbered_from 1 rs) (numbers_below 1 (suc (length rs)) rs (omega arith))) in
      omega (arith, below)
