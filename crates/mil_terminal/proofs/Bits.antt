-- The marks of a host as bits.
use Rattle.std.proofs.Common.{◌≡◌, ◌≢◌, ℕ, zero, suc, ◌+◌, ◌-◌, ◌*◌, ◌^◌, ◌/◌, ◌%◌, nat_eq, ◌<◌, ◌≤◌, List, refl, sym, ap, ◌∙◌, arith, replicate, length, w32, get_or-set_same, get_or-set_other}
use Rattle.std.proofs.lemmas.Bool.{eq-eqb, eqb-true, false≢true}
use Rattle.std.proofs.lemmas.Nat.Bits.{bit_at-zero, shr_and_one, bit_at_set_same, bit_at_set_other, bit_at_clear_same, bit_at_clear_other}
use Rattle.std.proofs.lemmas.Bool.Decides.{nat_tests}
use Rattle.std.specs.Prelude.{Bool, true, false, ◌&&◌, ◌==◌, if◌then◌else◌, slice_index, slice_set, bit_and, bit_or}
use Rattle.std.specs.Int.{bit_at}
use Rattle.mil_word.specs.Words.{same_bool}
use Rattle.mil_host.specs.Values.{Marked, ModeMarked}
use Rattle.mil_terminal.specs.Host.{is_mark, is_mode_mark}
use Rattle.mil_terminal.specs.Marking.{is_set, is_mode_set}
use Rattle.mil_terminal.specs.declared.marks.Marks.{Marks}

index-replicate : (n k : ℕ) → slice_index (replicate n 0) k ≡ 0
index-replicate zero k = refl
index-replicate (suc n) zero = refl
index-replicate (suc n) (suc k) = index-replicate n k

-- nothing is set at first
pub none_set : (t : Bool) (s n : ℕ) → is_set (record { rows = replicate 64 0 }) t s n ≡ false
unfolding is_set
none_set t s n = rw (index-replicate 64, bit_at-zero) refl

-- the bit that is read
pub is_read : (marks : Marks) (t : Bool) (s n row : ℕ) → row ≡ (if t then 32 + s else s) → (bit_and (slice_index marks.rows row / 2 ^ (n - 1)) 1 == 1) ≡ is_set marks t s n
unfolding is_set
is_read marks t s n row row_is = rw (shr_and_one, row_is) refl

same_row : (t u : Bool) (s v : ℕ) → s < 32 → v < 32 → (if t then 32 + s else s) ≡ (if u then 32 + v else v) → (same_bool t u ≡ true) × (s ≡ v)
same_row true true s v a b e = (refl, omega arith)
same_row false false s v a b e = (refl, e)
same_row true false s v a b e = absurd (omega arith)
same_row false true s v a b e = absurd (omega arith)

same_bool_is : (t u : Bool) → same_bool t u ≡ true → t ≡ u
same_bool_is true true h = refl
same_bool_is false false h = refl
same_bool_is true false h = cc
same_bool_is false true h = cc

and_parts : (a b c : Bool) → (a && b && c) ≡ true → (a ≡ true) × (b ≡ true) × (c ≡ true)
and_parts true true true h = (refl, refl, refl)
and_parts true true false h = cc
and_parts true false c h = cc
and_parts false b c h = cc

self_mark : (t : Bool) (s n : ℕ) → (same_bool t t && s == s && n == n) ≡ true
self_mark true s n = rw (eq-eqb s s refl, eq-eqb n n refl) refl
self_mark false s n = rw (eq-eqb s s refl, eq-eqb n n refl) refl

-- a mark that is not this one, in the same row, has another count
other_count : (t : Bool) (s n : ℕ) (mark : Marked) → s < 32 → mark.sub < 32 → is_mark t s n mark ≡ false
    → (if mark.transmit then 32 + mark.sub else mark.sub) ≡ (if t then 32 + s else s) → n ≢ mark.count
other_count t s n mark s_lt sub_lt not_mark rows_same same_count =
    let parts = same_row mark.transmit t mark.sub s sub_lt s_lt rows_same in
    false≢true (sym not_mark ∙ rw (same_bool_is mark.transmit t parts.0, parts.1, same_count) (self_mark t s mark.count))

-- what each bit says after a write of one
pub is_written : (rows : List ℕ) (mark : Marked) (on : Bool) (value : ℕ) → length rows ≡ 64
    → bit_at value (mark.count - 1) ≡ (if on then 1 else 0)
    → ((i : ℕ) → i < 32 → i ≢ mark.count - 1 → bit_at value i ≡ bit_at (slice_index rows (if mark.transmit then 32 + mark.sub else mark.sub)) i)
    → mark.sub < 32 → 1 ≤ mark.count
    → (t : Bool) (s n : ℕ) → s < 32 → 1 ≤ n → n ≤ 32
    → is_set (record { rows = slice_set rows (if mark.transmit then 32 + mark.sub else mark.sub) value }) t s n ≡ (if is_mark t s n mark then on else is_set (record { rows = rows }) t s n)
unfolding is_set
is_written rows mark on value long same other sub_lt count_ge t s n s_lt n_ge n_le = go (is_mark t s n mark) refl
  where
    at : ℕ
    at = if mark.transmit then 32 + mark.sub else mark.sub

    told : (b : Bool) → ((if b then 1 else 0) == 1) ≡ b
    told true = refl
    told false = refl

    row_lt : (b : Bool) (v : ℕ) → v < 32 → (if b then 32 + v else v) < 64
    row_lt true v lt = omega arith
    row_lt false v lt = omega arith

    elsewhere : (b : Bool) → is_mark t s n mark ≡ false → ((if mark.transmit then 32 + mark.sub else mark.sub) == (if t then 32 + s else s)) ≡ b
        → bit_at (slice_index (slice_set rows (if mark.transmit then 32 + mark.sub else mark.sub) value) (if t then 32 + s else s)) (n - 1) ≡ bit_at (slice_index rows (if t then 32 + s else s)) (n - 1)
    elsewhere true not_mark here =
        let rows_same = eqb-true (if mark.transmit then 32 + mark.sub else mark.sub) (if t then 32 + s else s) here in
        let differs : n ≢ mark.count = other_count t s n mark s_lt sub_lt not_mark rows_same in
        rw (← rows_same, get_or-set_same rows (if mark.transmit then 32 + mark.sub else mark.sub) value 0 (omega (arith, long, row_lt mark.transmit mark.sub sub_lt)))
        (other (n - 1) (omega arith) (λ e. differs (omega arith)))
    elsewhere false not_mark here =
        ap (λ (x : ℕ). bit_at x (n - 1)) (get_or-set_other rows (if mark.transmit then 32 + mark.sub else mark.sub) (if t then 32 + s else s) value 0 (λ e. false≢true (sym here ∙ eq-eqb _ _ (sym e))))

    go : (b : Bool) → is_mark t s n mark ≡ b
        → (bit_at (slice_index (slice_set rows (if mark.transmit then 32 + mark.sub else mark.sub) value) (if t then 32 + s else s)) (n - 1) == 1)
        ≡ (if b then on else bit_at (slice_index rows (if t then 32 + s else s)) (n - 1) == 1)
    go true is =
        let parts = and_parts (same_bool mark.transmit t) (mark.sub == s) (mark.count == n) is in
        rw (
          ← same_bool_is mark.transmit t parts.0,
          ← eqb-true mark.sub s parts.1,
          ← eqb-true mark.count n parts.2,
          get_or-set_same rows (if mark.transmit then 32 + mark.sub else mark.sub) value 0 (omega (arith, long, row_lt mark.transmit mark.sub sub_lt)),
          same,
        ) (told on)
    go false is = ap (λ (x : ℕ). x == 1) (elsewhere (nat_eq (if mark.transmit then 32 + mark.sub else mark.sub) (if t then 32 + s else s)) is refl)

-- a mark is set, and cleared
pub is_set_on : (rows : List ℕ) (mark : Marked) (row place : ℕ) → length rows ≡ 64 → row ≡ (if mark.transmit then 32 + mark.sub else mark.sub) → place ≡ mark.count - 1
    → mark.sub < 32 → 1 ≤ mark.count → mark.count ≤ 32
    → (t : Bool) (s n : ℕ) → s < 32 → 1 ≤ n → n ≤ 32
    → is_set (record { rows = slice_set rows row (bit_or (slice_index rows row) (1 * 2 ^ place % 4294967296)) }) t s n ≡ (if is_mark t s n mark then true else is_set (record { rows = rows }) t s n)
is_set_on rows mark row place long row_is place_is sub_lt count_ge count_le t s n s_lt n_ge n_le =
    let within : mark.count - 1 < 32 = omega arith in
    rw (row_is, place_is)
    (is_written rows mark true _ long (bit_at_set_same w32 _ (mark.count - 1) within) (λ i lt differs. bit_at_set_other w32 _ (mark.count - 1) within i differs)
    sub_lt count_ge t s n s_lt n_ge n_le)

pub is_set_off : (rows : List ℕ) (mark : Marked) (row place : ℕ) → length rows ≡ 64 → row ≡ (if mark.transmit then 32 + mark.sub else mark.sub) → place ≡ mark.count - 1
    → mark.sub < 32 → 1 ≤ mark.count → mark.count ≤ 32
    → (t : Bool) (s n : ℕ) → s < 32 → 1 ≤ n → n ≤ 32
    → is_set (record { rows = slice_set rows row (bit_and (slice_index rows row) (4294967295 - 1 * 2 ^ place % 4294967296)) }) t s n ≡ (if is_mark t s n mark then false else is_set (record { rows = rows }) t s n)
is_set_off rows mark row place long row_is place_is sub_lt count_ge count_le t s n s_lt n_ge n_le =
    let within : mark.count - 1 < 32 = omega arith in
    rw (row_is, place_is)
    (is_written rows mark false _ long (bit_at_clear_same w32 _ (mark.count - 1) within) (λ i lt differs. bit_at_clear_other w32 _ (mark.count - 1) within i lt differs)
    sub_lt count_ge t s n s_lt n_ge n_le)

-- ---- marks of mode commands, which stand in the row of subaddress 0

pub no_mode_set : (t : Bool) (code : ℕ) → is_mode_set (record { rows = replicate 64 0 }) t code ≡ false
unfolding is_mode_set
no_mode_set t code = rw (index-replicate 64, bit_at-zero) refl

pub mode_is_read : (marks : Marks) (t : Bool) (code row : ℕ) → row ≡ (if t then 32 else 0) → (bit_and (slice_index marks.rows row / 2 ^ code) 1 == 1) ≡ is_mode_set marks t code
unfolding is_mode_set
mode_is_read marks t code row row_is = rw (shr_and_one, row_is) refl

-- such a mark as one of a count at subaddress 0
abbrev pub as_mark : ModeMarked → Marked
as_mark mark = record { transmit = mark.transmit; sub = 0; count = mark.code + 1 }

mode_as : (marks : Marks) (t : Bool) (code : ℕ) → is_mode_set marks t code ≡ is_set marks t 0 (code + 1)
unfolding is_set is_mode_set
mode_as marks true code = ap (λ k. bit_at (slice_index marks.rows 32) k == 1) (omega arith)
mode_as marks false code = ap (λ k. bit_at (slice_index marks.rows 0) k == 1) (omega arith)

mark_as : (t : Bool) (code : ℕ) (mark : ModeMarked) → is_mark t 0 (code + 1) (as_mark mark) ≡ is_mode_mark t code mark
mark_as t code mark = go (nat_eq mark.code code) refl
  where
    both : (b x : Bool) → (b && true && x) ≡ (b && x)
    both true x = refl
    both false x = refl

    go : (b : Bool) → nat_eq mark.code code ≡ b → (same_bool mark.transmit t && true && nat_eq (mark.code + 1) (code + 1)) ≡ (same_bool mark.transmit t && nat_eq mark.code code)
    go true is = rw (is, eq-eqb (mark.code + 1) (code + 1) (ap (λ k. k + 1) (eqb-true mark.code code is))) (both (same_bool mark.transmit t) true)
    go false is =
        let other : nat_eq (mark.code + 1) (code + 1) ≡ false = grind (arith, nat_tests) in
        rw (is, other) (both (same_bool mark.transmit t) false)

not_mode : (b x : Bool) → (b && false && x) ≡ false
not_mode true x = refl
not_mode false x = refl

-- a mark of a subaddress changes none of them
pub modes_stay : (old later : Marks) (mark : Marked) (on : Bool) → 1 ≤ mark.sub
    → ((t : Bool) (s n : ℕ) → s < 32 → 1 ≤ n → n ≤ 32 → is_set later t s n ≡ (if is_mark t s n mark then on else is_set old t s n))
    → (t : Bool) (code : ℕ) → code < 32 → is_mode_set later t code ≡ is_mode_set old t code
modes_stay old later mark on some set t code lt =
    let other : (mark.sub == 0) ≡ false = grind (arith, nat_tests) in
    mode_as later t code ∙ set t 0 (code + 1) (omega arith) (omega arith) (omega arith) ∙ rw (other, not_mode) (sym (mode_as old t code))

-- one of them is set or cleared, and no mark of a subaddress changes
pub modes_set : (old later : Marks) (mark : ModeMarked) (on : Bool)
    → ((t : Bool) (s n : ℕ) → s < 32 → 1 ≤ n → n ≤ 32 → is_set later t s n ≡ (if is_mark t s n (as_mark mark) then on else is_set old t s n))
    → (t : Bool) (code : ℕ) → code < 32 → is_mode_set later t code ≡ (if is_mode_mark t code mark then on else is_mode_set old t code)
modes_set old later mark on set t code lt =
    mode_as later t code ∙ set t 0 (code + 1) (omega arith) (omega arith) (omega arith) ∙ rw (mark_as t code mark, mode_as old t code) refl

pub marks_stay : (old later : Marks) (mark : ModeMarked) (on : Bool)
    → ((t : Bool) (s n : ℕ) → s < 32 → 1 ≤ n → n ≤ 32 → is_set later t s n ≡ (if is_mark t s n (as_mark mark) then on else is_set old t s n))
    → (t : Bool) (s n : ℕ) → 1 ≤ s → s < 32 → 1 ≤ n → n ≤ 32 → is_set later t s n ≡ is_set old t s n
marks_stay old later mark on set t s n ge lt n_ge n_le =
    let other : (0 == s) ≡ false = grind (arith, nat_tests) in
    set t s n lt n_ge n_le ∙ rw (other, not_mode) refl

pub mode_on : (rows : List ℕ) (mark : ModeMarked) (row place : ℕ) → length rows ≡ 64 → row ≡ (if mark.transmit then 32 else 0) → place ≡ mark.code → mark.code < 32
    → (t : Bool) (s n : ℕ) → s < 32 → 1 ≤ n → n ≤ 32
    → is_set (record { rows = slice_set rows row (bit_or (slice_index rows row) (1 * 2 ^ place % 4294967296)) }) t s n ≡ (if is_mark t s n (as_mark mark) then true else is_set (record { rows = rows }) t s n)
mode_on rows mark row place long row_is place_is lt = is_set_on rows (as_mark mark) row place long row_is (place_is ∙ omega arith) (omega arith) (omega arith) (omega arith)

pub mode_off : (rows : List ℕ) (mark : ModeMarked) (row place : ℕ) → length rows ≡ 64 → row ≡ (if mark.transmit then 32 else 0) → place ≡ mark.code → mark.code < 32
    → (t : Bool) (s n : ℕ) → s < 32 → 1 ≤ n → n ≤ 32
    → is_set (record { rows = slice_set rows row (bit_and (slice_index rows row) (4294967295 - 1 * 2 ^ place % 4294967296)) }) t s n ≡ (if is_mark t s n (as_mark mark) then false else is_set (record { rows = rows }) t s n)
mode_off rows mark row place long row_is place_is lt = is_set_off rows (as_mark mark) row place long row_is (place_is ∙ omega arith) (omega arith) (omega arith) (omega arith)
