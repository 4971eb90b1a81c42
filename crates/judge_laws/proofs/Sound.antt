-- The block status word of a message that nothing is wrong with.
use Rattle.std.proofs.Common.{◌≡◌, ℕ, ◌+◌, ◌≤◌, ◌==◌, Bool, true, false, ◌||◌, List, [], ◌∷◌, length, refl, ap, ◌∙◌, arith, Option, Some, None}
use Rattle.std.specs.Prelude.{not, nat_lt, if◌then◌else◌}
use Rattle.std.specs.Option.{is_some}
use Rattle.std.proofs.lemmas.Bool.{eq-eqb}
use Rattle.std.proofs.lemmas.Bool.Decides.{nat_tests}
use Rattle.mil_word.specs.declared.Line.{Line}
use Rattle.mil_word.specs.Fields.{address_of, has_bit}
use Rattle.mil_message.specs.declared.forms.Due.{Due}
use Rattle.mil_message.specs.declared.forms.Form.{Form}
use Rattle.mil_message.specs.Forms.{replies_due, second_command, controller_words}
use Rattle.mil_bus.specs.BlockStatus.{first_due, second_due, is_late, is_miscounted, has_other_address, bit_if, is_line_b, is_transfer, has_response_time_out, has_word_count_error, has_error, block_of}
use Rattle.bench_judge.specs.Clean.{has_no_error}
use Rattle.judge_laws.proofs.Counting.{nothing_wrong, came}

pub none-of : (a b c d e f g h : Bool) → a ≡ false → b ≡ false → c ≡ false → d ≡ false → e ≡ false → f ≡ false → g ≡ false → h ≡ false → (a || b || c || d || e || f || g || h) ≡ false
none-of a b c d e f g h ea eb ec ed ee ef eg eh = rw (ea, eb, ec, ed, ee, ef, eg, eh) refl

pub none-of-two : (a b : Bool) → a ≡ false → b ≡ false → (a || b) ≡ false
none-of-two a b ea eb = rw (ea, eb) refl

pub none-of-three : (a b c : Bool) → a ≡ false → b ≡ false → c ≡ false → (a || b || c) ≡ false
none-of-three a b c ea eb ec = rw (ea, eb, ec) refl

block-sum : (b e t f l w o u : Bool) → e ≡ false → t ≡ false → f ≡ false → l ≡ false → w ≡ false → o ≡ false → u ≡ false
    → bit_if b 8192 + bit_if e 4096 + bit_if t 2048 + bit_if f 1024 + bit_if l 512 + bit_if w 32 + bit_if o 16 + bit_if u 8 ≡ (if b then 8192 else 0)
block-sum true e t f l w o u ee et ef el ew eo eu = rw (ee, et, ef, el, ew, eo, eu) refl
block-sum false e t f l w o u ee et ef el ew eo eu = rw (ee, et, ef, el, ew, eo, eu) refl

abbrev pub line_bit : Line → ℕ
line_bit line = if is_line_b line then 8192 else 0

pub no-error : (b : Bool) → has_no_error (if b then 8192 else 0) ≡ true
no-error true = refl
no-error false = refl

pub not-between : (b : Bool) → has_bit 11 (if b then 8192 else 0) ≡ false
not-between true = refl
not-between false = refl

pub counted : (m n : ℕ) → m ≡ n → not (m == n) ≡ false
counted m n is = rw (eq-eqb m n is) refl

-- no reply is due, and none came
pub block-alone : (line : Line) (form : Form) (n : ℕ) → replies_due form ≡ [] → second_command form ≡ None → n ≡ length (controller_words form)
    → block_of line form (nothing_wrong n None None) ≡ line_bit line
block-alone line form n none alone long =
    let s = nothing_wrong n None None in
    let one : first_due (replies_due form) ≡ None = ap first_due none in
    let two : second_due (replies_due form) ≡ None = ap second_due none in
    let late : has_response_time_out form s ≡ false = none-of-two (is_late (first_due (replies_due form)) None) (is_late (second_due (replies_due form)) None) (ap (λ d. is_late d None) one) (ap (λ d. is_late d None) two) in
    let words : has_word_count_error form s ≡ false =
    none-of-three (not (n == length (controller_words form))) (is_miscounted (first_due (replies_due form)) None) (is_miscounted (second_due (replies_due form)) None)
    (counted n (length (controller_words form)) long) (ap (λ d. is_miscounted d None) one) (ap (λ d. is_miscounted d None) two) in
    let error : has_error form s ≡ false =
    none-of (has_response_time_out form s) (has_word_count_error form s) false false false (has_other_address (first_due (replies_due form)) None) (has_other_address (second_due (replies_due form)) None) false
    late words refl refl refl (ap (λ d. has_other_address d None) one) (ap (λ d. has_other_address d None) two) refl in
    block-sum (is_line_b line) (has_error form s) (is_transfer form) false (has_response_time_out form s) (has_word_count_error form s) false false
    error (ap (λ (o : Option ℕ). is_some o) alone) refl late words refl refl

-- one reply is due, and came in time with its words
pub block-one : (line : Line) (form : Form) (n : ℕ) (due : Due) (gap status : ℕ) (values : List ℕ) → replies_due form ≡ due ∷ [] → second_command form ≡ None → n ≡ length (controller_words form)
    → gap ≤ 120 → address_of status ≡ due.address → length values ≡ due.words → block_of line form (nothing_wrong n (Some (came gap status values)) None) ≡ line_bit line
block-one line form n due gap status values dues alone long soon own many =
    let s = nothing_wrong n (Some (came gap status values)) None in
    let c = came gap status values in
    let one : first_due (replies_due form) ≡ Some due = ap first_due dues in
    let two : second_due (replies_due form) ≡ None = ap second_due dues in
    let in_time : nat_lt 140 gap ≡ false = grind (arith, nat_tests) in
    let late : has_response_time_out form s ≡ false =
    none-of-two (is_late (first_due (replies_due form)) (Some c)) (is_late (second_due (replies_due form)) None) (ap (λ d. is_late d (Some c)) one ∙ in_time) (ap (λ d. is_late d None) two) in
    let right : not (1 + length values == due.words + 1) ≡ false = counted (1 + length values) (due.words + 1) (omega (arith, many)) in
    let words : has_word_count_error form s ≡ false =
    none-of-three (not (n == length (controller_words form))) (is_miscounted (first_due (replies_due form)) (Some c)) (is_miscounted (second_due (replies_due form)) None)
    (counted n (length (controller_words form)) long) (ap (λ d. is_miscounted d (Some c)) one ∙ rw right refl) (ap (λ d. is_miscounted d None) two) in
    let other : has_other_address (first_due (replies_due form)) (Some c) ≡ false = ap (λ d. has_other_address d (Some c)) one ∙ counted (address_of status) due.address own in
    let error : has_error form s ≡ false =
    none-of (has_response_time_out form s) (has_word_count_error form s) false false false (has_other_address (first_due (replies_due form)) (Some c)) (has_other_address (second_due (replies_due form)) None) false
    late words refl refl refl other (ap (λ d. has_other_address d None) two) refl in
    block-sum (is_line_b line) (has_error form s) (is_transfer form) false (has_response_time_out form s) (has_word_count_error form s) false false
    error (ap (λ (o : Option ℕ). is_some o) alone) refl late words refl refl
