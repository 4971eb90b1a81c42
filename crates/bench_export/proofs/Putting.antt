-- Texts that are put in front of a place, from their end on towards the front.
use Rattle.std.proofs.Common.{◌≡◌, ℕ, zero, suc, ◌+◌, ◌-◌, ◌/◌, ◌%◌, ◌<◌, ◌≤◌, nat_lt, Bool, true, false, if◌then◌else◌, List, [], ◌∷◌, ◌++◌, length, set, take, drop, refl, sym, ap, ◌∙◌, append_assoc, add-one, arith, length-drop, ◌==◌}
use Rattle.std.proofs.lemmas.List.{append-nil, drop-set, drop_all, take_all}
use Rattle.std.proofs.lemmas.Bool.Decides.{nat_tests}
use Rattle.bench_export.specs.Digits.{four}
use Rattle.std.specs.Prelude.{codes, decimal}
use Rattle.bench_export.specs.Waves.{binary, code_line, letter_text, time_text}

-- a byte in front of a place
pub byte_put : (room : List ℕ) (end byte : ℕ) → 0 < end → end ≤ length room → drop (end - 1) (set room (end - 1) byte) ≡ byte ∷ drop end room
byte_put room end byte some within =
    let e : end - 1 + 1 ≡ end = omega arith in
    rw (drop-set room (end - 1) byte (omega arith), e)

-- a text in front of what was put in front of a place
pub in_front : (now then_ was a b : List ℕ) → now ≡ a ++ then_ → then_ ≡ b ++ was → now ≡ (a ++ b) ++ was
in_front now then_ was a b one two = one ∙ ap (λ (l : List ℕ). a ++ l) two ∙ sym (append_assoc a b was)

-- the last binary digit, and those in front of it
pub one_more : (most value : ℕ) → 2 ≤ value → binary (suc most) value ≡ binary most (value / 2) ++ (48 + value % 2) ∷ []
unfolding binary
one_more most value large =
    let less : nat_lt value 2 ≡ false = grind (arith, nat_tests) in
    ap (λ (x : Bool). (if x then [] else binary most (value / 2)) ++ (48 + value % 2) ∷ []) less

pub one_alone : (most value : ℕ) → value < 2 → binary (suc most) value ≡ (48 + value % 2) ∷ []
unfolding binary
one_alone most value small =
    let less : nat_lt value 2 ≡ true = grind (arith, nat_tests) in
    ap (λ (x : Bool). (if x then [] else binary most (value / 2)) ++ (48 + value % 2) ∷ []) less

pub none_left : (value : ℕ) → binary 0 value ≡ []
unfolding binary
none_left value = refl

-- the last four binary digits, and those in front of them
pub four_more : (most value : ℕ) → 16 ≤ value → binary (suc (suc (suc (suc most)))) value ≡ binary most (value / 16) ++ four (value % 16)
four_more most value large =
    let a : value / 2 / 2 / 2 / 2 ≡ value / 16 = omega arith in
    let b : value / 2 / 2 / 2 % 2 ≡ value % 16 / 8 % 2 = omega arith in
    let c : value / 2 / 2 % 2 ≡ value % 16 / 4 % 2 = omega arith in
    let d : value / 2 % 2 ≡ value % 16 / 2 % 2 = omega arith in
    let e : value % 2 ≡ value % 16 % 2 = omega arith in
    rw (one_more (suc (suc (suc most))) value (omega arith), one_more (suc (suc most)) (value / 2) (omega arith), one_more (suc most) (value / 2 / 2) (omega arith), one_more most (value / 2 / 2 / 2) (omega arith), append_assoc, append_assoc, append_assoc, a, b, c, d, ← e)

-- the code of a signal at the end of a line of text
pub code_put : (now three two one was : List ℕ) (letter line : ℕ) (on_b : Bool) (channel : ℕ) → line ∷ [] ≡ letter_text on_b → one ≡ 10 ∷ was → two ≡ decimal channel ++ one → three ≡ line ∷ two → now ≡ letter ∷ three
    → now ≡ code_line (letter ∷ []) on_b channel ++ was
unfolding code_line
code_put now three two one was letter line on_b channel is e1 e2 e3 e4 =
    e4 ∙ ap (λ (l : List ℕ). letter ∷ l) (e3 ∙ ap (λ (l : List ℕ). line ∷ l) (e2 ∙ ap (λ (l : List ℕ). decimal channel ++ l) e1))
    ∙ ap (λ (l : List ℕ). letter ∷ (line ∷ l)) (sym (append_assoc (decimal channel) (10 ∷ []) was))
    ∙ ap (λ (l : List ℕ). (letter ∷ ((l ++ decimal channel) ++ codes "\n")) ++ was) is

-- a value of a signal
pub signal_put : (now three two one was code value : List ℕ) → one ≡ code ++ was → two ≡ 32 ∷ one → three ≡ value ++ two → now ≡ 98 ∷ three
    → now ≡ (codes "b" ++ (value ++ (codes " " ++ code))) ++ was
signal_put now three two one was code value e1 e2 e3 e4 =
    e4 ∙ ap (λ (l : List ℕ). 98 ∷ l) (e3 ∙ ap (λ (l : List ℕ). value ++ l) (e2 ∙ ap (λ (l : List ℕ). 32 ∷ l) e1))
    ∙ ap (λ (l : List ℕ). 98 ∷ l) (sym (append_assoc value (32 ∷ code) was))

-- five texts, the last of which was put first
pub five_put : (now four_ three two one was a b c d e : List ℕ) → one ≡ e ++ was → two ≡ d ++ one → three ≡ c ++ two → four_ ≡ b ++ three → now ≡ a ++ four_
    → now ≡ (a ++ (b ++ (c ++ (d ++ e)))) ++ was
five_put now four_ three two one was a b c d e e1 e2 e3 e4 e5 =
    in_front now four_ was a (b ++ (c ++ (d ++ e))) e5
    (in_front four_ three was b (c ++ (d ++ e)) e4 (in_front three two was c (d ++ e) e3 (in_front two one was d e e2 e1)))

-- ---- binary digits in front of a place

pub few_none : (was : List ℕ) (most value : ℕ) → most ≡ 0 → was ≡ binary most value ++ was
few_none was most value none = sym (ap (λ (k : ℕ). binary k value ++ was) none ∙ ap (λ (l : List ℕ). l ++ was) (none_left value))

pub few_last : (now was : List ℕ) (most value : ℕ) → (most ≡ 0 → ⊥) → value < 2 → now ≡ (48 + value % 2) ∷ was → now ≡ binary most value ++ was
few_last now was zero value some small e = absurd (some refl)
few_last now was (suc most) value some small e = e ∙ ap (λ (l : List ℕ). l ++ was) (sym (one_alone most value small))

pub few_more : (now one was : List ℕ) (rest most value : ℕ) → rest + 1 ≡ most → 2 ≤ value → one ≡ (48 + value % 2) ∷ was → now ≡ binary rest (value / 2) ++ one → now ≡ binary most value ++ was
few_more now one was rest most value is large e1 e2 =
    e2 ∙ ap (λ (l : List ℕ). binary rest (value / 2) ++ l) e1 ∙ sym (append_assoc (binary rest (value / 2)) ((48 + value % 2) ∷ []) was)
    ∙ ap (λ (l : List ℕ). l ++ was) (sym (one_more rest value large)) ∙ ap (λ (k : ℕ). binary k value ++ was) (sym (add-one rest) ∙ is)

pub fours_more : (now one was : List ℕ) (rest most value : ℕ) → rest + 4 ≡ most → 16 ≤ value → one ≡ four (value % 16) ++ was → now ≡ binary rest (value / 16) ++ one → now ≡ binary most value ++ was
fours_more now one was rest most value is large e1 e2 =
    let same : suc (suc (suc (suc rest))) ≡ most = omega (arith, is) in
    e2 ∙ ap (λ (l : List ℕ). binary rest (value / 16) ++ l) e1 ∙ sym (append_assoc (binary rest (value / 16)) (four (value % 16)) was)
    ∙ ap (λ (l : List ℕ). l ++ was) (sym (four_more rest value large)) ∙ ap (λ (k : ℕ). binary k value ++ was) same

-- ---- a time, and a whole change

pub time_none : (was : List ℕ) (last tick : ℕ) → last ≡ tick → was ≡ time_text last tick ++ was
unfolding time_text
time_none was last tick same =
    let told : (last == tick) ≡ true = grind (arith, nat_tests) in
    ap (λ (b : Bool). (if b then [] else codes "#" ++ (decimal tick ++ codes "\n")) ++ was) (sym told)

pub time_put : (now two one was : List ℕ) (last tick : ℕ) → (last ≡ tick → ⊥) → one ≡ 10 ∷ was → two ≡ decimal tick ++ one → now ≡ 35 ∷ two → now ≡ time_text last tick ++ was
unfolding time_text
time_put now two one was last tick other e1 e2 e3 =
    let told : (last == tick) ≡ false = grind (arith, nat_tests, other) in
    e3 ∙ ap (λ (l : List ℕ). 35 ∷ l) (e2 ∙ ap (λ (l : List ℕ). decimal tick ++ l) e1 ∙ sym (append_assoc (decimal tick) (10 ∷ []) was))
    ∙ ap (λ (b : Bool). (if b then [] else codes "#" ++ (decimal tick ++ codes "\n")) ++ was) (sym told)

pub change_put : (now one room time shown : List ℕ) → length room ≡ 346 → one ≡ shown ++ drop 346 room → now ≡ time ++ one → now ≡ time ++ shown
change_put now one room time shown long e1 e2 =
    e2 ∙ ap (λ (l : List ℕ). time ++ l) (e1 ∙ ap (λ (l : List ℕ). shown ++ l) (drop_all 346 room (omega (arith, long))) ∙ append-nil shown)

-- what stands from a place on up to the end
pub whole_rest : (room : List ℕ) (start long : ℕ) → length room ≡ long → take (long - start) (drop start room) ≡ drop start room
whole_rest room start long is = take_all (long - start) (drop start room) (omega (arith, length-drop start room, is))
