-- Slots of a flat list.
use Rattle.std.proofs.Common.{◌≡◌, ◌≢◌, ℕ, zero, suc, ◌+◌, ◌-◌, ◌*◌, ◌<◌, ◌≤◌, List, [], ◌∷◌, ◌++◌, refl, sym, ap, ◌∙◌, arith, replicate, length, take, drop, get_or, set, get_or-set_same, get_or-set_other, length-set, nat_eq, length-append, length-drop, zero-le}
use Rattle.std.specs.Prelude.{Bool, true, false, nat_lt, slice_index, Result, Ok, Err, IsOk, OnOk}
use Rattle.std.proofs.lemmas.Bool.Decides.{nat_tests}
use Rattle.std.proofs.lemmas.Bool.{eq-eqb, eqb-true, false≢true}
use Rattle.std.proofs.lemmas.List.{drop-drop, drop-take, same_lists, take_at, length-take-le, take-replicate}
use Rattle.std.proofs.lemmas.Slice.{take-put_mid_below, drop-put_mid, between-put_mid}
use borrow.Rule.Slice.PartMut.{put_mid}
use Rattle.mil_terminal.specs.Slots.{slots}

-- empty slots
pub slots-none : (n : ℕ) (words : List ℕ) → slots (replicate n 0) words ≡ replicate n []
slots-none zero words = refl
slots-none (suc n) words = ap (λ (xs : List (List ℕ)). [] ∷ xs) (slots-none n (drop 32 words))

pub length-slots : (counts words : List ℕ) → length (slots counts words) ≡ length counts
length-slots [] words = refl
length-slots (n ∷ counts) words = ap suc (length-slots counts (drop 32 words))

-- the words of a slot
pub slots_at : (counts words : List ℕ) (i : ℕ) (d : List ℕ) → i < length counts → get_or (slots counts words) i d ≡ take (get_or counts i 0) (drop (32 * i) words)
slots_at [] words i d lt = absurd (omega arith)
slots_at (n ∷ counts) words zero d lt = refl
slots_at (n ∷ counts) words (suc i) d lt =
    slots_at counts (drop 32 words) i d (omega arith) ∙ ap (λ (xs : List ℕ). take (get_or counts i 0) xs) (drop-drop (32 * i) 32 words ∙ ap (λ (k : ℕ). drop k words) (omega arith))

-- the places of a slot that is below, and above, the one that is written
below : (a k m c : ℕ) (xs ys : List ℕ) → m + c ≤ a → a ≤ length xs → take c (drop m (put_mid a k xs ys)) ≡ take c (drop m xs)
below a k m c xs ys le long = sym (drop-take m c (put_mid a k xs ys)) ∙ ap (λ (zs : List ℕ). drop m zs) (take-put_mid_below a k xs ys (m + c) le long) ∙ drop-take m c xs

-- the slots after a write of one
pub slots-written : (counts words ws : List ℕ) (at : ℕ) → at < length counts → 32 * length counts ≤ length words → length ws ≤ 32
    → ((i : ℕ) → i < length counts → get_or counts i 0 ≤ 32)
    → slots (set counts at (length ws)) (put_mid (32 * at) (length ws) words ws) ≡ set (slots counts words) at ws
slots-written counts words ws at lt long few small =
    same_lists _ _ (length-slots (set counts at (length ws)) _ ∙ length-set counts at (length ws) ∙ sym (length-set (slots counts words) at ws ∙ length-slots counts words))
    (λ i d within.
    let i_lt : i < length counts = omega (arith, length-slots (set counts at (length ws)) (put_mid (32 * at) (length ws) words ws), length-set counts at (length ws)) in
    slots_at (set counts at (length ws)) (put_mid (32 * at) (length ws) words ws) i d (omega (arith, length-set counts at (length ws))) ∙ go i d i_lt (nat_eq at i) refl)
  where
    elsewhere : (i : ℕ) → i < length counts → get_or counts i 0 ≤ 32 → at ≢ i
        → take (get_or counts i 0) (drop (32 * i) (put_mid (32 * at) (length ws) words ws)) ≡ take (get_or counts i 0) (drop (32 * i) words)
    elsewhere i i_lt c_le other = side (nat_lt i at) refl
      where
        side : (b : Bool) → nat_lt i at ≡ b → take (get_or counts i 0) (drop (32 * i) (put_mid (32 * at) (length ws) words ws)) ≡ take (get_or counts i 0) (drop (32 * i) words)
        side true is = below (32 * at) (length ws) (32 * i) (get_or counts i 0) words ws (grind (arith, nat_tests)) (omega arith)
        side false is = ap (λ (zs : List ℕ). take (get_or counts i 0) zs) (drop-put_mid (32 * at) (length ws) words ws (32 * i) (grind (arith, nat_tests)) (omega arith) refl)

    go : (i : ℕ) (d : List ℕ) → i < length counts → (b : Bool) → nat_eq at i ≡ b
        → take (get_or (set counts at (length ws)) i 0) (drop (32 * i) (put_mid (32 * at) (length ws) words ws)) ≡ get_or (set (slots counts words) at ws) i d
    go i d i_lt true here =
        rw (← eqb-true at i here)
        (rw (get_or-set_same counts at (length ws) 0 lt, get_or-set_same (slots counts words) at ws d (omega (arith, length-slots counts words)))
        (ap (λ (n : ℕ). take n (drop (32 * at) (put_mid (32 * at) (length ws) words ws))) (omega arith)
        ∙ between-put_mid (32 * at) (length ws) words ws (32 * at + length ws) (omega arith) (omega arith)))
    go i d i_lt false there =
        let other : at ≢ i = λ e. false≢true (sym there ∙ eq-eqb at i e) in
        rw (get_or-set_other counts at i (length ws) 0 (λ e. other (sym e)), get_or-set_other (slots counts words) at i ws d (λ e. other (sym e)), slots_at counts words i d i_lt)
        (elsewhere i i_lt (small i i_lt) other)

length-put_mid : (a k : ℕ) (xs ys : List ℕ) → length ys ≡ k → a + k ≤ length xs → length (put_mid a k xs ys) ≡ length xs
length-put_mid a k xs ys same fits =
    length-append (take a xs) (ys ++ drop k (drop a xs)) ∙ omega (arith, length-append ys (drop k (drop a xs)), length-take-le a xs, length-drop k (drop a xs), length-drop a xs)

-- a vector after a write of its slice
pub refilled : (len a : ℕ) (items ws : List ℕ) → a + length ws ≤ length items → length items ≡ len
    → take len (put_mid a (a + length ws - a) items ws ++ drop (length (put_mid a (a + length ws - a) items ws)) items) ≡ put_mid a (length ws) items ws
refilled len a items ws fits long =
    let k_is : a + length ws - a ≡ length ws = omega arith in
    rw k_is (take_at (put_mid a (length ws) items ws) _ len (length-put_mid a (length ws) items ws refl fits ∙ long))

-- counts of nothing
pub none_counted : (n i : ℕ) → slice_index (replicate n 0) i ≤ 32
none_counted zero i = zero-le
none_counted (suc n) zero = zero-le
none_counted (suc n) (suc i) = none_counted n i

-- the first of so many equal words
pub take_same : (word n : ℕ) → n ≤ 33 → take n (replicate 33 word) ≡ replicate n word
take_same word n le = take-replicate n 33 word le

pub where_ok : {X E : Type 0} (r : Result X E) (P : Type 0) → IsOk r → OnOk r P → P
where_ok (Ok x) P ok p = p
where_ok (Err e) P ok p = cc
