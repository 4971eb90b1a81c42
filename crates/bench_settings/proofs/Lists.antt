-- Lists of records and numbers.
use Rattle.std.proofs.Common.{◌≡◌, ◌≢◌, ℕ, zero, suc, ◌+◌, ◌<◌, ◌≤◌, Bool, true, false, not, ◌||◌, cond, eqb, List, [], ◌∷◌, ◌++◌, take, map, slice_get, slice_set, Some, refl, sym, ap, ◌∙◌, append_assoc, arith, subst}
use Rattle.std.specs.List.{AllByRecursion, filter, list_any}
use Rattle.std.proofs.lemmas.List.{append-nil}
use Rattle.std.proofs.lemmas.List.Elements.{filter-append}
use Rattle.std.proofs.lemmas.List.Folds.{list_any-append}
use Rattle.std.proofs.lemmas.Bool.{eq-eqb, ne_eqb}
use Rattle.ch11_f1.specs.declared.Record.{Record}
use Rattle.ch11_builder.specs.Packet.{Numbered}
use Rattle.ch11_recording.specs.declared.item.Item.{Item}
use Rattle.ch11_recording.specs.Items.{channel_of, record_in, records_in, numbered, numbered_from}
use Rattle.bench_settings.specs.Kept.{is_kept}

-- ---- records of a channel

pub records_both : (channel : ℕ) (xs ys : List Item) → records_in channel (xs ++ ys) ≡ records_in channel xs ++ records_in channel ys
records_both channel [] ys = refl
records_both channel (x ∷ xs) ys =
    let first : List Numbered = cond (eqb (channel_of x) channel) (record_in x) [] in
    ap (λ (ns : List Numbered). first ++ ns) (records_both channel xs ys) ∙ sym (append_assoc first (records_in channel xs) (records_in channel ys))

-- one item more, of this channel
pub own_more : (channel : ℕ) (xs : List Item) (x : Item) → channel_of x ≡ channel → records_in channel (xs ++ x ∷ []) ≡ records_in channel xs ++ record_in x
own_more channel xs x same =
    records_both channel xs (x ∷ [])
    ∙ ap (λ (b : Bool). records_in channel xs ++ (cond b (record_in x) [] ++ [])) (eq-eqb (channel_of x) channel same)
    ∙ ap (λ (ns : List Numbered). records_in channel xs ++ ns) (append-nil (record_in x))

-- one item more, of another channel
pub other_more : (channel : ℕ) (xs : List Item) (x : Item) → channel_of x ≢ channel → records_in channel (xs ++ x ∷ []) ≡ records_in channel xs
other_more channel xs x other =
    records_both channel xs (x ∷ [])
    ∙ ap (λ (b : Bool). records_in channel xs ++ (cond b (record_in x) [] ++ [])) (ne_eqb (channel_of x) channel other)
    ∙ append-nil (records_in channel xs)

-- ---- numbered records

pub numbered_more : (number made : ℕ) (rs : List Record) (r : Record) → slice_get rs made ≡ Some r
    → numbered_from number (take (made + 1) rs) ≡ numbered_from number (take made rs) ++ numbered (number + made) r ∷ []
numbered_more number made [] r at = absurd cc
numbered_more number zero (x ∷ rs) r at =
    let same : x ≡ r = cc in
    let none : number ≡ number + 0 = omega arith in
    ap (λ (y : Record). numbered number y ∷ []) same ∙ ap (λ (k : ℕ). numbered k r ∷ []) none
numbered_more number (suc made) (x ∷ rs) r at =
    let longer : suc made + 1 ≡ suc (made + 1) = omega arith in
    let place : suc number + made ≡ number + suc made = omega arith in
    ap (λ (k : ℕ). numbered_from number (take k (x ∷ rs))) longer
    ∙ ap (λ (ns : List Numbered). numbered number x ∷ ns) (numbered_more (suc number) made rs r at)
    ∙ ap (λ (k : ℕ). numbered number x ∷ (numbered_from (suc number) (take made rs) ++ numbered k r ∷ [])) place

-- their numbers are below the next one
all_below : (number made : ℕ) (rs : List Record) → AllByRecursion (λ (n : Numbered). n.number < number + made) (numbered_from number (take made rs))
all_below number zero rs = tt
all_below number (suc made) [] = tt
all_below number (suc made) (r ∷ rs) =
    let later = all_below (suc number) made rs in
    let place : suc number + made ≡ number + suc made = omega arith in
    (omega arith, subst (λ (k : ℕ). AllByRecursion (λ (n : Numbered). n.number < k) (numbered_from (suc number) (take made rs))) place later)

-- ---- refused numbers

-- all of these are at most this
abbrev pub NoneAbove : ℕ → List ℕ → Type 0
NoneAbove most ns = AllByRecursion (λ n. n ≤ most) ns

not_refused : (ns : List ℕ) (number most : ℕ) → NoneAbove most ns → most < number → list_any (λ (k : ℕ). eqb k number) ns ≡ false
not_refused [] number most all less = refl
not_refused (n ∷ ns) number most all less = rw (ne_eqb n number (λ e. absurd (omega (arith, all.0, less, e))), not_refused ns number most all.1 less) refl

pub none_above_more : (most : ℕ) (ns : List ℕ) → NoneAbove most ns → NoneAbove (most + 1) ns
none_above_more most [] all = tt
none_above_more most (n ∷ ns) all = (omega (arith, all.0), none_above_more most ns all.1)

pub none_above_next : (most : ℕ) (ns : List ℕ) → NoneAbove most ns → NoneAbove (most + 1) (ns ++ (most + 1) ∷ [])
none_above_next most [] all = (omega arith, tt)
none_above_next most (n ∷ ns) all = (omega (arith, all.0), none_above_next most ns all.1)

-- ---- kept records

-- a number that is none of the records makes no difference
filter_same : (refused : List ℕ) (next : ℕ) (ns : List Numbered) → AllByRecursion (λ (n : Numbered). n.number < next) ns
    → filter (is_kept (refused ++ next ∷ [])) ns ≡ filter (is_kept refused) ns
filter_same refused next [] all = refl
filter_same refused next (n ∷ ns) all =
    let other : eqb next n.number ≡ false = ne_eqb next n.number (λ e. absurd (omega (arith, all.0, e))) in
    let same : is_kept (refused ++ next ∷ []) n ≡ is_kept refused n =
    ap not (list_any-append (λ (k : ℕ). eqb k n.number) refused (next ∷ []) ∙ ap (λ (b : Bool). list_any (λ (k : ℕ). eqb k n.number) refused || (b || false)) other ∙ or_false (list_any (λ (k : ℕ). eqb k n.number) refused)) in
    rw (same, filter_same refused next ns all.1) refl
  where
    or_false : (b : Bool) → (b || (false || false)) ≡ b
    or_false true = refl
    or_false false = refl

-- a message that was kept
pub kept_more : (refused : List ℕ) (made : ℕ) (rs : List Record) (r : Record) → NoneAbove made refused → slice_get rs made ≡ Some r
    → filter (is_kept refused) (numbered_from 1 (take (made + 1) rs)) ≡ filter (is_kept refused) (numbered_from 1 (take made rs)) ++ numbered (made + 1) r ∷ []
kept_more refused made rs r low at =
    let next : 1 + made ≡ made + 1 = omega arith in
    ap (filter (is_kept refused)) (numbered_more 1 made rs r at ∙ ap (λ (k : ℕ). numbered_from 1 (take made rs) ++ numbered k r ∷ []) next)
    ∙ filter-append (is_kept refused) (numbered_from 1 (take made rs)) (numbered (made + 1) r ∷ [])
    ∙ ap (λ (b : Bool). filter (is_kept refused) (numbered_from 1 (take made rs)) ++ cond (not b) (numbered (made + 1) r ∷ []) []) (not_refused refused (made + 1) made low (omega arith))

-- a message that was refused
pub kept_same : (refused : List ℕ) (made : ℕ) (rs : List Record) (r : Record) → NoneAbove made refused → slice_get rs made ≡ Some r
    → filter (is_kept (refused ++ (made + 1) ∷ [])) (numbered_from 1 (take (made + 1) rs)) ≡ filter (is_kept refused) (numbered_from 1 (take made rs))
kept_same refused made rs r low at =
    let next : 1 + made ≡ made + 1 = omega arith in
    let more : List ℕ = refused ++ (made + 1) ∷ [] in
    let gone : list_any (λ (k : ℕ). eqb k (made + 1)) more ≡ true =
    list_any-append (λ (k : ℕ). eqb k (made + 1)) refused ((made + 1) ∷ [])
    ∙ ap (λ (b : Bool). list_any (λ (k : ℕ). eqb k (made + 1)) refused || (b || false)) (eq-eqb (made + 1) (made + 1) refl)
    ∙ or_true (list_any (λ (k : ℕ). eqb k (made + 1)) refused) in
    ap (filter (is_kept more)) (numbered_more 1 made rs r at ∙ ap (λ (k : ℕ). numbered_from 1 (take made rs) ++ numbered k r ∷ []) next)
    ∙ filter-append (is_kept more) (numbered_from 1 (take made rs)) (numbered (made + 1) r ∷ [])
    ∙ ap (λ (b : Bool). filter (is_kept more) (numbered_from 1 (take made rs)) ++ cond (not b) (numbered (made + 1) r ∷ []) []) gone
    ∙ append-nil (filter (is_kept more) (numbered_from 1 (take made rs)))
    ∙ filter_same refused (made + 1) (numbered_from 1 (take made rs)) (subst (λ (k : ℕ). AllByRecursion (λ (n : Numbered). n.number < k) (numbered_from 1 (take made rs))) next (all_below 1 made rs))
  where
    or_true : (b : Bool) → (b || (true || false)) ≡ true
    or_true true = refl
    or_true false = refl

-- ---- lists, one of them mapped

module _ {X Y : Type 0} where
  pub map_at : (g : X → Y) (xs : List X) (i : ℕ) (x : X) → slice_get xs i ≡ Some x → slice_get (map g xs) i ≡ Some (g x)
  map_at g [] i x at = absurd cc
  map_at g (y ∷ xs) zero x at = let same : y ≡ x = cc in ap (λ (z : X). Some (g z)) same
  map_at g (y ∷ xs) (suc i) x at = map_at g xs i x at

  pub map_kept : (g : X → Y) (xs : List X) (i : ℕ) (x v : X) → slice_get xs i ≡ Some x → g v ≡ g x → map g (slice_set xs i v) ≡ map g xs
  map_kept g [] i x v at same = refl
  map_kept g (y ∷ xs) zero x v at same = let here : x ≡ y = cc in ap (λ (z : Y). z ∷ map g xs) (same ∙ ap g here)
  map_kept g (y ∷ xs) (suc i) x v at same = ap (λ (ys : List Y). g y ∷ ys) (map_kept g xs i x v at same)

pub which : {X Y : Type 0} (g : X → Y) (xs : List X) (i : ℕ) (y : Y) → slice_get (map g xs) i ≡ Some y → (x : X) × (slice_get xs i ≡ Some x) × (y ≡ g x)
which g [] i y at = absurd cc
which g (x ∷ xs) zero y at = (x, refl, cc)
which g (x ∷ xs) (suc i) y at = which g xs i y at
