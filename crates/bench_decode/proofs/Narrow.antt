-- The columns in front of a form, where each number has room.
use Rattle.std.proofs.Common.{◌≡◌, ℕ, suc, ◌+◌, ◌-◌, ◌≤◌, max, List, [], ◌∷◌, ◌++◌, length, replicate, refl, ap, sym, ◌∙◌, arith, append_assoc, length-append}
use Rattle.std.proofs.lemmas.List.{length-replicate}
use Rattle.bench_decode.specs.Columns.{Part, past, right, spaces, text}
use Rattle.bench_decode.specs.Waiting.{Waiting, drawn_on, told}
use Rattle.bench_decode.proofs.Drawing.{drawing, told-told}

told-columns : (w : Waiting) (bytes : List ℕ) → (told w bytes).columns ≡ w.columns + length bytes
unfolding told
told-columns w bytes = refl

-- a text at the end of columns, of which it leaves the first one free
pub right-more : (width : ℕ) (bytes : List ℕ) → length bytes ≤ width → right (suc width) bytes ≡ 32 ∷ right width bytes
right-more width bytes few = let e : suc width - length bytes ≡ suc (width - length bytes) = omega arith in ap (λ (n : ℕ). replicate n 32 ++ bytes) e

pub right-length : (width : ℕ) (bytes : List ℕ) → length bytes ≤ width → length (right width bytes) ≡ width
right-length width bytes few = omega (arith, length-append (spaces (width - length bytes)) bytes, length-replicate {A = ℕ} (width - length bytes) 32)

pub narrow-is : (w : Waiting) (number seconds decimals channel in_channel : List ℕ) (letter : ℕ) → w.columns ≡ 0 → length number ≡ 7 → length seconds ≡ 5 → length decimals ≡ 8 → length channel ≡ 7 → length in_channel ≡ 7
    → told w (number ++ ((32 ∷ seconds) ++ (decimals ++ ((32 ∷ channel) ++ ((32 ∷ in_channel) ++ (32 ∷ letter ∷ 32 ∷ 32 ∷ 32 ∷ 32 ∷ []))))))
    ≡ drawn_on w (text number ∷ text (32 ∷ []) ∷ text seconds ∷ text decimals ∷ text (32 ∷ []) ∷ text channel ∷ text (32 ∷ []) ∷ text in_channel ∷ past 38 ∷ text (letter ∷ []) ∷ past 43 ∷ [])
narrow-is w number seconds decimals channel in_channel letter none hn hs hd hc hi =
    let w1 = told w number in
    let w2 = told w1 (32 ∷ []) in
    let w3 = told w2 seconds in
    let w4 = told w3 decimals in
    let w5 = told w4 (32 ∷ []) in
    let w6 = told w5 channel in
    let w7 = told w6 (32 ∷ []) in
    let w8 = told w7 in_channel in
    let c8 : w8.columns ≡ 37 = omega (arith, told-columns w number, told-columns w1 (32 ∷ []), told-columns w2 seconds, told-columns w3 decimals, told-columns w4 (32 ∷ []), told-columns w5 channel, told-columns w6 (32 ∷ []), told-columns w7 in_channel) in
    let first : spaces (max (38 - w8.columns) 1) ≡ 32 ∷ [] = ap (λ (n : ℕ). spaces (max (38 - n) 1)) c8 in
    let w9 = told w8 (32 ∷ []) in
    let w10 = told w9 (letter ∷ []) in
    let c10 : w10.columns ≡ 39 = omega (arith, c8, told-columns w8 (32 ∷ []), told-columns w9 (letter ∷ [])) in
    let second : spaces (max (43 - w10.columns) 1) ≡ 32 ∷ 32 ∷ 32 ∷ 32 ∷ [] = ap (λ (n : ℕ). spaces (max (43 - n) 1)) c10 in
    simp drawing (rw (first, second) (simp (told-told, append_assoc)))
