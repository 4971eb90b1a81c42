-- Parts of a buffer.
use Rattle.std.proofs.Common.{◌≡◌, ℕ, ◌+◌, ◌-◌, ◌≤◌, Bool, false, List, ◌++◌, length, take, drop, slice_range, Option, sym, ap, ◌∙◌, arith}
use Rattle.std.proofs.lemmas.List.{drop-drop, drop-take, length-drop, length-take}
use Rattle.std.proofs.Math.Seq.{take-add}
use Rattle.std.specs.Io.KnownBytes.{Consumes, IsAtEnd}
use Rattle.ch11_stream.specs.Feeding.{AreMoreReady}

-- a part without its first items
pub range_behind : (xs : List ℕ) (a n e : ℕ) → a + n ≤ e → slice_range xs (a + n) e ≡ drop n (slice_range xs a e)
range_behind xs a n e fits =
    let whole : n + (e - (a + n)) ≡ e - a = omega (arith, fits) in
    ap (take (e - (a + n))) (sym (drop-drop n a xs)) ∙ sym (drop-take n (e - (a + n)) (drop a xs)) ∙ ap (λ (k : ℕ). drop n (take k (drop a xs))) whole

range_of_front : (xs : List ℕ) (a e : ℕ) → a ≤ e → slice_range xs a e ≡ drop a (take e xs)
range_of_front xs a e order = let whole : a + (e - a) ≡ e = omega (arith, order) in sym (drop-take a (e - a) xs) ∙ ap (λ (k : ℕ). drop a (take k xs)) whole

-- a part depends on what stands in front of its end
pub same_range : (xs ys : List ℕ) (a e : ℕ) → a ≤ e → take e ys ≡ take e xs → slice_range ys a e ≡ slice_range xs a e
same_range xs ys a e order same = range_of_front ys a e order ∙ ap (drop a) same ∙ sym (range_of_front xs a e order)

-- a part with more items behind it
pub range_more : (xs : List ℕ) (a e n : ℕ) → a ≤ e → slice_range xs a (e + n) ≡ slice_range xs a e ++ take n (drop e xs)
range_more xs a e n order =
    let split : e + n - a ≡ e - a + n = omega (arith, order) in
    let past : a + (e - a) ≡ e = omega (arith, order) in
    ap (λ (k : ℕ). take k (drop a xs)) split ∙ take-add (e - a) n (drop a xs) ∙ ap (λ (ys : List ℕ). slice_range xs a e ++ take n ys) (drop-drop (e - a) a xs ∙ ap (λ (k : ℕ). drop k xs) past)

pub range_length : (xs : List ℕ) (a e : ℕ) → e ≤ length xs → length (slice_range xs a e) ≡ e - a
range_length xs a e within = omega (arith, within, length-take (e - a) (drop a xs), length-drop a xs)

-- a read behind the bytes that are ready
pub more_given : (left leaves : Option (List ℕ)) (before items new : List ℕ) (a e n : ℕ) (more : Bool) → a ≤ e → slice_range items a e ≡ before → take e new ≡ take e items
    → Consumes left leaves (take n (drop e new)) → (more ≡ false → (n ≡ 0) × IsAtEnd leaves) → AreMoreReady left leaves before (slice_range new a (e + n)) more
more_given left leaves before items new a e n more order ready same taken ended = record {
  given = take n (drop e new);
  taken = taken;
  kept = range_more new a e n order ∙ ap (λ (ys : List ℕ). ys ++ take n (drop e new)) (same_range items new a e order same ∙ ready);
  ended = λ m. (ap (λ (k : ℕ). take k (drop e new)) (ended m).0, (ended m).1);
}
