-- The fields that fit are those of a message.
use Rattle.std.proofs.Common.{◌≡◌, ℕ, suc, ◌/◌, ◌%◌, ◌^◌, ◌<◌, ◌≤◌, ◌==◌, Bool, true, false, List, [], ◌∷◌, length, Some, None, refl, sym, ap, ap₂, ◌∙◌, subst, ⊎_elim, arith}
use Rattle.std.specs.Prelude.{not, ◌&&◌, ◌||◌, if◌then◌else◌}
use Rattle.std.proofs.lemmas.Bool.{cases_lt}
use Rattle.std.proofs.lemmas.Bool.Decides.{nat_tests}
use Rattle.mil_word.specs.Fields.{address_of, is_broadcast, is_transmit, sub_of, code_of, count_of, is_mode}
use Rattle.mil_message.specs.declared.drafts.ModeSubaddress.{ModeSubaddress}
use Rattle.mil_message.specs.declared.drafts.ModeSubaddress.TheVariants.{Zero, ThirtyOne}
use Rattle.mil_message.specs.declared.faults.BadMessage.{BadMessage}
use Rattle.mil_message.specs.declared.faults.BadMessage.TheVariants as bad
use Rattle.mil_message.specs.declared.messages.Message.{Message}
use Rattle.mil_message.specs.declared.forms.Form.TheVariants.{ToTerminal, FromTerminal, Between, Mode, ModeFrom, ModeTo, ToAll, BetweenAll, ModeAll, ModeAllTo}
use Rattle.mil_message.specs.Forms.{command_word, count_field, mode_subaddress}
use Rattle.mil_message.specs.Rules.{is_address, is_subaddress, is_count, is_code_alone, is_code_from, is_code_to, first_fault, IsLawful}
use Rattle.mil_message.specs.Parts.{Parts, parts_of, request_at}
use Rattle.frame_code.specs.Fields.{receives, transmits, calls_one, mode_alone, mode_from, mode_to, first_fits, sends_for, second_fits, words_due}
use Rattle.frame_code.specs.Reading.{message_with}

pub both : (a b : Bool) → (a && b) ≡ true → (a ≡ true) × (b ≡ true)
both true b e = (refl, e)
both false b e = cc

pub is_not : (a : Bool) → not a ≡ true → a ≡ false
is_not true e = cc
is_not false e = refl

pub equal : (a b : ℕ) → (a == b) ≡ true → a ≡ b
equal a b e = grind (arith, nat_tests)

-- rules that are met have no fault
met2 : (a b : Bool) (x y : BadMessage) → a ≡ true → b ≡ true → first_fault ((a, x) ∷ (b, y) ∷ []) ≡ None
met2 true true x y p q = refl
met2 true false x y p q = cc
met2 false b x y p q = cc

met3 : (a b c : Bool) (x y z : BadMessage) → a ≡ true → b ≡ true → c ≡ true → first_fault ((a, x) ∷ (b, y) ∷ (c, z) ∷ []) ≡ None
met3 true b c x y z p q r = met2 b c y z q r
met3 false b c x y z p q r = cc

met4 : (a b c d : Bool) (x y z w : BadMessage) → a ≡ true → b ≡ true → c ≡ true → d ≡ true → first_fault ((a, x) ∷ (b, y) ∷ (c, z) ∷ (d, w) ∷ []) ≡ None
met4 true b c d x y z w p q r s = met3 b c d y z w q r s
met4 false b c d x y z w p q r s = cc

both_true : (a b : Bool) → a ≡ true → b ≡ true → (a && b) ≡ true
both_true true b p q = q
both_true false b p q = cc

-- the command word of its fields
bit : (n : ℕ) → (n % 2 == 1) ≡ true → n % 2 ≡ 1
bit n e = equal (n % 2) 1 e

no_bit : (n : ℕ) → (n % 2 == 1) ≡ false → n % 2 ≡ 0
no_bit n e = grind (arith, nat_tests)

receive_word : (c : ℕ) → is_transmit c ≡ false → command_word (address_of c) false (sub_of c) (code_of c) ≡ c
receive_word c e = let b : c / 2 ^ 10 % 2 ≡ 0 = no_bit (c / 2 ^ 10) e in omega arith

transmit_word : (c : ℕ) → is_transmit c ≡ true → command_word (address_of c) true (sub_of c) (code_of c) ≡ c
transmit_word c e = let b : c / 2 ^ 10 % 2 ≡ 1 = bit (c / 2 ^ 10) e in omega arith

-- a subaddress that marks no mode command
data_sub : (s : ℕ) → s < 32 → (s == 0 || s == 31) ≡ false → is_subaddress s ≡ true
data_sub s h e = grind (arith, nat_tests)

sub_small : (c : ℕ) → sub_of c < 32
sub_small c = omega arith

mode_sub : (s : ℕ) → (s == 0 || s == 31) ≡ true → mode_subaddress (if s == 0 then Zero else ThirtyOne) ≡ s
mode_sub s e = by (s == 0) refl (s == 31) refl e
  where
    by : (a : Bool) → (s == 0) ≡ a → (b : Bool) → (s == 31) ≡ b → (a || b) ≡ true → mode_subaddress (if a then Zero else ThirtyOne) ≡ s
    by true x b y h = sym (equal s 0 x)
    by false x true y h = sym (equal s 31 y)
    by false x false y h = cc

-- a data word count
count_in : (k : ℕ) → k < 32 → is_count (if k == 0 then 32 else k) ≡ true
count_in k h = grind (arith, nat_tests)

count_back : (k : ℕ) → k < 32 → count_field (if k == 0 then 32 else k) ≡ k
count_back k h = by (k == 0) refl
  where
    by : (a : Bool) → (k == 0) ≡ a → (if a then 32 else k) % 32 ≡ k
    by true x = let z : k ≡ 0 = equal k 0 x in omega arith
    by false x = omega arith

code_small : (c : ℕ) → code_of c < 32
code_small c = omega arith

counted : (c : ℕ) → is_count (count_of c) ≡ true
counted c = count_in (code_of c) (code_small c)

counts_back : (c : ℕ) → count_field (count_of c) ≡ code_of c
counts_back c = count_back (code_of c) (code_small c)

-- a command to receive, or to transmit, data words
record IsData (c : ℕ) (t : Bool) : Type 0 where
  sub : is_subaddress (sub_of c) ≡ true
  word : command_word (address_of c) t (sub_of c) (count_field (count_of c)) ≡ c

receive_data : (c : ℕ) → receives c ≡ true → IsData c false
receive_data c e =
    let p = both (not (is_transmit c)) (not (is_mode c)) e in
    record {
      sub = data_sub (sub_of c) (sub_small c) (is_not (is_mode c) p.1);
      word = ap (command_word (address_of c) false (sub_of c)) (counts_back c) ∙ receive_word c (is_not (is_transmit c) p.0);
    }

transmit_data : (c : ℕ) → transmits c ≡ true → IsData c true
transmit_data c e =
    let p = both (is_transmit c) (not (is_mode c)) e in
    record {
      sub = data_sub (sub_of c) (sub_small c) (is_not (is_mode c) p.1);
      word = ap (command_word (address_of c) true (sub_of c)) (counts_back c) ∙ transmit_word c p.0;
    }

-- a mode command
abbrev sub_at : ℕ → ModeSubaddress
sub_at c = if sub_of c == 0 then Zero else ThirtyOne

mode_word_true : (c : ℕ) → is_transmit c ≡ true → is_mode c ≡ true → command_word (address_of c) true (mode_subaddress (sub_at c)) (code_of c) ≡ c
mode_word_true c t m = ap (λ s. command_word (address_of c) true s (code_of c)) (mode_sub (sub_of c) m) ∙ transmit_word c t

mode_word_false : (c : ℕ) → is_transmit c ≡ false → is_mode c ≡ true → command_word (address_of c) false (mode_subaddress (sub_at c)) (code_of c) ≡ c
mode_word_false c t m = ap (λ s. command_word (address_of c) false s (code_of c)) (mode_sub (sub_of c) m) ∙ receive_word c t

broadcast_is : (c : ℕ) → is_broadcast c ≡ true → address_of c ≡ 31
broadcast_is c e = equal (address_of c) 31 e

abbrev pub parts : ℕ → ℕ → ℕ → List ℕ → Parts
parts form first second words = record { number = form; first = first; second = second; words = words }

-- the message of these parts
pub record IsMessage (p : Parts) : Type 0 where
  pub message : Message
  pub found : message_with (request_at p) ≡ Some message
  pub lawful : IsLawful message
  pub same : parts_of message ≡ p

abbrev pub Whole : ℕ → Type 0
Whole form = (first second : ℕ) (words : List ℕ) → first_fits form first ≡ true → second_fits form first second ≡ true → length words ≡ words_due form first → IsMessage (parts form first second words)

to_terminal_whole : Whole 0
to_terminal_whole c d ws f s l =
    let p = both (calls_one c) (receives c) f in
    let q = receive_data c p.1 in
    record {
      message = ToTerminal (address_of c) (sub_of c) (record { items = ws });
      found = refl;
      lawful = met3 (is_address (address_of c)) (is_subaddress (sub_of c)) (is_count (length ws)) bad.Address bad.Subaddress bad.CountOrCode p.0 q.sub (ap is_count l ∙ counted c);
      same = ap₂ (λ x y. parts 0 x y ws) (ap (λ n. command_word (address_of c) false (sub_of c) (count_field n)) l ∙ q.word) (sym (equal d 0 s));
    }

no_words : (xs : List ℕ) → length xs ≡ 0 → [] ≡ xs
no_words [] e = refl
no_words (x ∷ xs) e = absurd (omega arith)

one_word : (xs : List ℕ) → length xs ≡ 1 → (x : ℕ) × (xs ≡ x ∷ [])
one_word [] e = absurd (omega arith)
one_word (x ∷ []) e = (x, refl)
one_word (x ∷ y ∷ xs) e = absurd (omega arith)

-- a message without data words
none_of : (form c d first second : ℕ) (ws : List ℕ) → first ≡ c → second ≡ d → length ws ≡ 0 → parts form first second [] ≡ parts form c d ws
none_of form c d first second ws e f l = ap₂ (λ x y. parts form x y []) e f ∙ ap (parts form c d) (no_words ws l)

from_terminal_whole : Whole 1
from_terminal_whole c d ws f s l =
    let p = both (calls_one c) (transmits c) f in
    let q = transmit_data c p.1 in
    record {
      message = FromTerminal (address_of c) (sub_of c) (count_of c);
      found = refl;
      lawful = met3 (is_address (address_of c)) (is_subaddress (sub_of c)) (is_count (count_of c)) bad.Address bad.Subaddress bad.CountOrCode p.0 q.sub (counted c);
      same = none_of 1 c d _ _ ws q.word (sym (equal d 0 s)) l;
    }

-- the second command of a transfer between terminals
record IsSecond (first c : ℕ) : Type 0 where
  one : calls_one c ≡ true
  data_at : IsData c true
  count : count_of first ≡ count_of c

second_data : (first c : ℕ) → sends_for first c ≡ true → IsSecond first c
second_data first c e =
    let p = both (calls_one c && transmits c) (code_of c == code_of first) e in
    let q = both (calls_one c) (transmits c) p.0 in
    record {
      one = q.0;
      data_at = transmit_data c q.1;
      count = ap (λ k. if k == 0 then 32 else k) (sym (equal (code_of c) (code_of first) p.1));
    }

between_whole : Whole 2
between_whole c d ws f s l =
    let p = both (calls_one c) (receives c) f in
    let q = receive_data c p.1 in
    let t = both (sends_for c d) (not (address_of d == address_of c)) s in
    let u = second_data c d t.0 in
    record {
      message = Between (address_of d) (sub_of d) (address_of c) (sub_of c) (count_of c);
      found = refl;
      lawful = met4 (is_address (address_of d) && is_address (address_of c)) (is_subaddress (sub_of d) && is_subaddress (sub_of c)) (is_count (count_of c)) (not (address_of d == address_of c)) bad.Address bad.Subaddress bad.CountOrCode bad.SameEnds
          (both_true (is_address (address_of d)) (is_address (address_of c)) u.one p.0) (both_true (is_subaddress (sub_of d)) (is_subaddress (sub_of c)) u.data_at.sub q.sub) (counted c) t.1;
      same = none_of 2 c d _ _ ws q.word (ap (λ n. command_word (address_of d) true (sub_of d) (count_field n)) u.count ∙ u.data_at.word) l;
    }

between_all_whole : Whole 7
between_all_whole c d ws f s l =
    let p = both (is_broadcast c) (receives c) f in
    let q = receive_data c p.1 in
    let u = second_data c d s in
    record {
      message = BetweenAll (address_of d) (sub_of d) (sub_of c) (count_of c);
      found = refl;
      lawful = met3 (is_address (address_of d)) (is_subaddress (sub_of d) && is_subaddress (sub_of c)) (is_count (count_of c)) bad.Address bad.Subaddress bad.CountOrCode u.one (both_true (is_subaddress (sub_of d)) (is_subaddress (sub_of c)) u.data_at.sub q.sub) (counted c);
      same = none_of 7 c d _ _ ws (ap (λ a. command_word a false (sub_of c) (count_field (count_of c))) (sym (broadcast_is c p.0)) ∙ q.word) (ap (λ n. command_word (address_of d) true (sub_of d) (count_field n)) u.count ∙ u.data_at.word) l;
    }

to_all_whole : Whole 6
to_all_whole c d ws f s l =
    let p = both (is_broadcast c) (receives c) f in
    let q = receive_data c p.1 in
    record {
      message = ToAll (sub_of c) (record { items = ws });
      found = refl;
      lawful = met2 (is_subaddress (sub_of c)) (is_count (length ws)) bad.Subaddress bad.CountOrCode q.sub (ap is_count l ∙ counted c);
      same = ap₂ (λ x y. parts 6 x y ws) (ap₂ (λ a n. command_word a false (sub_of c) (count_field n)) (sym (broadcast_is c p.0)) l ∙ q.word) (sym (equal d 0 s));
    }

-- a mode command with T/R 1, and one with T/R 0
record IsMode (c : ℕ) (t : Bool) (code : ℕ → Bool) : Type 0 where
  code_in : code (code_of c) ≡ true
  word : command_word (address_of c) t (mode_subaddress (sub_at c)) (code_of c) ≡ c

mode_one : (c : ℕ) (code : ℕ → Bool) → (is_transmit c && is_mode c && code (code_of c)) ≡ true → IsMode c true code
mode_one c code e =
    let p = both (is_transmit c && is_mode c) (code (code_of c)) e in
    let q = both (is_transmit c) (is_mode c) p.0 in
    record { code_in = p.1; word = mode_word_true c q.0 q.1 }

mode_zero : (c : ℕ) (code : ℕ → Bool) → (not (is_transmit c) && is_mode c && code (code_of c)) ≡ true → IsMode c false code
mode_zero c code e =
    let p = both (not (is_transmit c) && is_mode c) (code (code_of c)) e in
    let q = both (not (is_transmit c)) (is_mode c) p.0 in
    record { code_in = p.1; word = mode_word_false c (is_not (is_transmit c) q.0) q.1 }

mode_whole : Whole 3
mode_whole c d ws f s l =
    let p = both (calls_one c) (mode_alone c) f in
    let q = mode_one c is_code_alone p.1 in
    record {
      message = Mode (address_of c) (sub_at c) (code_of c);
      found = refl;
      lawful = met3 (is_address (address_of c)) (is_code_alone (code_of c)) true bad.Address bad.CountOrCode bad.ModeWord p.0 q.code_in refl;
      same = none_of 3 c d _ _ ws q.word (sym (equal d 0 s)) l;
    }

mode_from_whole : Whole 4
mode_from_whole c d ws f s l =
    let p = both (calls_one c) (mode_from c) f in
    let q = mode_one c is_code_from p.1 in
    record {
      message = ModeFrom (address_of c) (sub_at c) (code_of c);
      found = refl;
      lawful = met3 (is_address (address_of c)) (is_code_from (code_of c)) true bad.Address bad.CountOrCode bad.ModeWord p.0 q.code_in refl;
      same = none_of 4 c d _ _ ws q.word (sym (equal d 0 s)) l;
    }

mode_to_whole : Whole 5
mode_to_whole c d ws f s l =
    let p = both (calls_one c) (mode_to c) f in
    let q = mode_zero c is_code_to p.1 in
    let w = one_word ws l in
    record {
      message = ModeTo (address_of c) (sub_at c) (code_of c) w.0;
      found = ap (λ v. message_with (request_at (parts 5 c d v))) w.1;
      lawful = met3 (is_address (address_of c)) (is_code_to (code_of c)) true bad.Address bad.CountOrCode bad.ModeWord p.0 q.code_in refl;
      same = ap₂ (λ x y. parts 5 x y (w.0 ∷ [])) q.word (sym (equal d 0 s)) ∙ ap (parts 5 c d) (sym w.1);
    }

mode_all_whole : Whole 8
mode_all_whole c d ws f s l =
    let p = both (is_broadcast c) (mode_alone c) f in
    let q = mode_one c is_code_alone p.1 in
    record {
      message = ModeAll (sub_at c) (code_of c);
      found = refl;
      lawful = met2 (is_code_alone (code_of c)) true bad.CountOrCode bad.ModeWord q.code_in refl;
      same = none_of 8 c d _ _ ws (ap (λ a. command_word a true (mode_subaddress (sub_at c)) (code_of c)) (sym (broadcast_is c p.0)) ∙ q.word) (sym (equal d 0 s)) l;
    }

mode_all_to_whole : Whole 9
mode_all_to_whole c d ws f s l =
    let p = both (is_broadcast c) (mode_to c) f in
    let q = mode_zero c is_code_to p.1 in
    let w = one_word ws l in
    record {
      message = ModeAllTo (sub_at c) (code_of c) w.0;
      found = ap (λ v. message_with (request_at (parts 9 c d v))) w.1;
      lawful = met2 (is_code_to (code_of c)) true bad.CountOrCode bad.ModeWord q.code_in refl;
      same = ap₂ (λ x y. parts 9 x y (w.0 ∷ [])) (ap (λ a. command_word a false (mode_subaddress (sub_at c)) (code_of c)) (sym (broadcast_is c p.0)) ∙ q.word) (sym (equal d 0 s)) ∙ ap (parts 9 c d) (sym w.1);
    }

-- one of ten forms
at_or_above : (form k : ℕ) (P : ℕ → Type 0) → k ≤ form → P k → (suc k ≤ form → P form) → P form
at_or_above form k P h here above = ⊎_elim (λ lt. let same : k ≡ form = omega arith in subst P same here) (λ le. above le) (cases_lt form (suc k))

pub whole : (form : ℕ) → form < 10 → Whole form
whole form h =
    at_or_above form 0 Whole (omega arith) to_terminal_whole
    (λ h1. at_or_above form 1 Whole h1 from_terminal_whole
    (λ h2. at_or_above form 2 Whole h2 between_whole
    (λ h3. at_or_above form 3 Whole h3 mode_whole
    (λ h4. at_or_above form 4 Whole h4 mode_from_whole
    (λ h5. at_or_above form 5 Whole h5 mode_to_whole
    (λ h6. at_or_above form 6 Whole h6 to_all_whole
    (λ h7. at_or_above form 7 Whole h7 between_all_whole
    (λ h8. at_or_above form 8 Whole h8 mode_all_whole
    (λ h9. at_or_above form 9 Whole h9 mode_all_to_whole (λ h10. absurd (omega arith)))))))))))
