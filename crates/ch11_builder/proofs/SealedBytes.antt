-- The bytes of a buffer that was sealed.
use Rattle.std.proofs.Common.{◌≡◌, ℕ, ◌+◌, ◌-◌, ◌^◌, ◌≤◌, List, [], ◌∷◌, ◌++◌, length, take, drop, refl, sym, ap, ◌∙◌, arith}
use Rattle.std.proofs.lemmas.List.{take_at, drop_at, take_rest, drop-drop, drop-take, drop_all, append-nil, length-append, length-drop, length-take-le}
use Rattle.std.proofs.Math.Seq.{take-append-add}
use Rattle.std.proofs.lemmas.Slice.{take-put_mid}
use borrow.Rule.Slice.PartMut.{put_mid}
use Rattle.byteorder.specs.Endian.{little_bytes}
use Rattle.ch11_header.specs.declared.Header.{Header}
use Rattle.ch11_header.specs.HeaderBytes.{header_bytes, summed_bytes}
use Rattle.ch11_builder.specs.Packet.{padded, filled}

middle : (H C W buffer : List ℕ) → length H ≡ 24 → 24 ≤ length buffer → W ≡ C ++ drop 4 (take (length (H ++ drop 24 buffer) - 24) (drop 24 (H ++ drop 24 buffer)))
    → put_mid 24 (length (H ++ drop 24 buffer) - 24) (H ++ drop 24 buffer) W ≡ H ++ (C ++ drop 28 buffer)
middle H C W buffer lenH long is =
    let e1 : drop 24 (H ++ drop 24 buffer) ≡ drop 24 buffer = drop_at H (drop 24 buffer) 24 lenH in
    let e2 : take 24 (H ++ drop 24 buffer) ≡ H = take_at H (drop 24 buffer) 24 lenH in
    let w : W ≡ C ++ drop 28 buffer = is ∙ rw (take_rest (H ++ drop 24 buffer) 24, e1, drop-drop 4 24 buffer) refl in
    let none : drop (length (H ++ drop 24 buffer) - 24) (drop 24 (H ++ drop 24 buffer)) ≡ [] = drop_all (length (H ++ drop 24 buffer) - 24) (drop 24 (H ++ drop 24 buffer)) (omega (arith, length-drop 24 (H ++ drop 24 buffer))) in
    rw (none, e2, w) (ap (λ (x : List ℕ). H ++ x) (append-nil (C ++ drop 28 buffer)))

sealed : (H C Z buffer : List ℕ) (k end : ℕ) → length H ≡ 24 → length C ≡ 4 → 28 + k ≤ end → end ≤ length buffer → length Z ≡ end - (28 + k)
    → take end (put_mid (28 + k) (end - (28 + k)) (H ++ (C ++ drop 28 buffer)) Z) ≡ (H ++ (C ++ drop 28 (take (28 + k) buffer))) ++ Z
sealed H C Z buffer k end lenH lenC within long lenZ =
    let whole : length (H ++ (C ++ drop 28 buffer)) ≡ length buffer = omega (arith, length-append H (C ++ drop 28 buffer), length-append C (drop 28 buffer), length-drop 28 buffer) in
    let t = take-put_mid (28 + k) (end - (28 + k)) (H ++ (C ++ drop 28 buffer)) Z end (omega arith) (omega arith) in
    let place : 28 + k ≡ length H + (length C + k) = omega arith in
    let u : take (28 + k) (H ++ (C ++ drop 28 buffer)) ≡ H ++ (C ++ take k (drop 28 buffer)) =
    ap (λ (n : ℕ). take n (H ++ (C ++ drop 28 buffer))) place
    ∙ take-append-add H (C ++ drop 28 buffer) (length C + k)
    ∙ ap (λ (x : List ℕ). H ++ x) (take-append-add C (drop 28 buffer) k) in
    let v : drop 28 (take (28 + k) buffer) ≡ take k (drop 28 buffer) = drop-take 28 k buffer in
    t ∙ ap (λ (x : List ℕ). x ++ Z) (u ∙ ap (λ (x : List ℕ). H ++ (C ++ x)) (sym v))

header_length : (h : Header) → length (header_bytes h) ≡ 24
unfolding header_bytes summed_bytes
header_length h = refl

-- filler behind the bytes
filled_is : (whole filler : List ℕ) (used end : ℕ) → length whole ≡ used → end ≡ padded used → filler ≡ take (end - used) (0 ∷ 0 ∷ 0 ∷ []) → whole ++ filler ≡ filled whole
filled_is whole filler used end size is z = rw (size, ← is) (ap (λ (x : List ℕ). whole ++ x) z)

pub sealed_packet : (h : Header) (count used end : ℕ) (buffer H W Z : List ℕ) → H ≡ header_bytes h → 28 ≤ used → end ≡ padded used → end ≤ length buffer
    → W ≡ little_bytes 4 (2 ^ 30 + count) ++ drop 4 (take (length (H ++ drop 24 buffer) - 24) (drop 24 (H ++ drop 24 buffer)))
    → Z ≡ take (end - used) (0 ∷ 0 ∷ 0 ∷ [])
    → take end (put_mid used (end - used) (put_mid 24 (length (H ++ drop 24 buffer) - 24) (H ++ drop 24 buffer) W) Z)
    ≡ filled (header_bytes h ++ (little_bytes 4 (2 ^ 30 + count) ++ drop 28 (take used buffer)))
sealed_packet h count used end buffer H W Z head low is long w z =
    let lenZ : length Z ≡ end - used = ap length z ∙ length-take-le (end - used) (0 ∷ 0 ∷ 0 ∷ []) (omega arith) in
    let lenH : length H ≡ 24 = ap length head ∙ header_length h in
    let m = middle H (little_bytes 4 (2 ^ 30 + count)) W buffer lenH (omega arith) w in
    let k : used ≡ 28 + (used - 28) = omega arith in
    let s : take end (put_mid used (end - used) (H ++ (little_bytes 4 (2 ^ 30 + count) ++ drop 28 buffer)) Z) ≡ (H ++ (little_bytes 4 (2 ^ 30 + count) ++ drop 28 (take used buffer))) ++ Z =
    rw k (sealed H (little_bytes 4 (2 ^ 30 + count)) Z buffer (used - 28) end lenH refl (omega arith) long (omega arith)) in
    let size : length (header_bytes h ++ (little_bytes 4 (2 ^ 30 + count) ++ drop 28 (take used buffer))) ≡ used = omega (arith, header_length h, length-append (header_bytes h) (little_bytes 4 (2 ^ 30 + count) ++ drop 28 (take used buffer)), length-append (little_bytes 4 (2 ^ 30 + count)) (drop 28 (take used buffer)), length-drop 28 (take used buffer), length-take-le used buffer (omega arith)) in
    ap (λ (x : List ℕ). take end (put_mid used (end - used) x Z)) m ∙ s ∙ ap (λ (x : List ℕ). (x ++ (little_bytes 4 (2 ^ 30 + count) ++ drop 28 (take used buffer))) ++ Z) head
    ∙ filled_is (header_bytes h ++ (little_bytes 4 (2 ^ 30 + count) ++ drop 28 (take used buffer))) Z used end size is z
